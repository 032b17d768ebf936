use Rattle.std.proofs.Common.{subst}
use Rattle.overlap_index.specs.Tied.{AreTied}
use Rattle.overlap_index.proofs.Known.{route_present}
use Rattle.overlap_index.proofs.Told.{told_gone, told_less}
use Rattle.overlap_index.proofs.ties.Ties.less.Goals as goal

pub remove-requires : goal.remove-requires
remove-requires c =
    let told = subst (AreTied c.requires.0 c.requires.1 c.requires.2) c.in-Told.is c.requires.4 in
    route_present c.requires.0 c.requires.1 c.in-Told.trie told.known c.args.id c.requires.3.present

pub returns-in-Told-clause-tied : goal.returns-in-Told-clause-tied
returns-in-Told-clause-tied c ids live pieces none going tied =
    told_less ids c.args.id c.args.place live pieces c.in-Told.trie c.remove.new.self c.remove.ensures going (subst (AreTied ids live pieces) c.in-Told.is tied)

pub returns-in-Told-clause-told : goal.returns-in-Told-clause-told
returns-in-Told-clause-told c = rw (c.remove.ensures, c.in-Told.is) (told_gone c.in-Told.trie c.args.id)

pub less-requires : goal.less-requires
less-requires c = (c.requires.0, c.requires.1, c.requires.2, c.requires.3, subst (AreTied c.requires.0 c.requires.1 c.requires.2) c.in-Linked.is c.requires.4)

pub returns-in-Linked-clause-tied : goal.returns-in-Linked-clause-tied
returns-in-Linked-clause-tied c ids live pieces none going tied = c.less.ensures ids live pieces none going (subst (AreTied ids live pieces) c.in-Linked.is tied)
