use Rattle.std.proofs.Common.{◌≡◌, refl, sym, ◌∙◌}
use Rattle.batch_order.proofs.back.Unmade.{unmade_made}
use Rattle.batch_order.proofs.undoing.note_words.Goals as goal

-- by covers there is none
pub returns-in-None-clause-noted : goal.returns-in-None-clause-noted
returns-in-None-clause-noted c =
    let none = c.requires.covers (rw c.in-None.is refl) in
    c.requires.empty ∙ (rw none refl)

pub returns-in-None-clause-to_tables : goal.returns-in-None-clause-to_tables
returns-in-None-clause-to_tables c =
    let none = c.requires.covers (rw c.in-None.is refl) in
    rw none tt

-- what the tables got they have lost again
pub returns-in_ok-reserve-in-Some-clause-same : goal.returns-in_ok-reserve-in-Some-clause-same
returns-in_ok-reserve-in-Some-clause-same c =
    let back : c.unmake_words.new.tables ≡ c.in-Some.kept.tables =
    c.unmake_words.ensures ∙ (rw (c.as_slice.ensures.value, c.make_words.ensures.made, c.make_words.ensures.noted) (unmade_made c.in-Some.kept.tables c.args.words.now)) in
    rw back (sym c.in-Some.is)
