use Rattle.leak_search.proofs.KnownWords.{blank_right, is_blank}
use Rattle.leak_search.proofs.tables.PortWords.new.Goals as goal

pub invariant_of-result : goal.invariant_of-result
invariant_of-result c = blank_right c.in_ok-words.words.items (is_blank c.in_ok-words.words.items (c.in_ok-words.ensures.items_if_clones_equal (λ y h. h)))

pub returns : goal.returns
returns c = is_blank c.in_ok-words.words.items (c.in_ok-words.ensures.items_if_clones_equal (λ y h. h))
