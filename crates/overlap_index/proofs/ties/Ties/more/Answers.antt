use Rattle.std.proofs.Common.{◌<◌, List, ◌∙◌, sym, ap, subst, inl, refl}
use Rattle.std.proofs.lemmas.Result.{on_ok_weaker, on_err_weaker}
use Rattle.placement.specs.declared.LivePiece.{LivePiece}
use Rattle.overlap_index.specs.Tied.{AreTied, AreTold, told_of}
use Rattle.overlap_index.proofs.Known.{route_absent}
use Rattle.overlap_index.proofs.Refused.{on_err_from}
use Rattle.overlap_index.proofs.Told.{told_entered, tied_entered}
use Rattle.overlap_index.proofs.ties.Ties.more.Goals as goal

pub enter-requires : goal.enter-requires
enter-requires c routes is =
    let ids = c.args.ids in
    let live = c.requires.0 in
    let told : AreTold ids live routes = subst (AreTied ids live c.args.pieces.now) is c.requires.2 in
    (subst (λ n. c.args.one.now.id < n) (sym told.known.many) c.requires.1.small, route_absent ids live routes told.known c.args.one.now.id c.requires.1.absent)

pub returns-in_err-enter-clause-refused : goal.returns-in_err-enter-clause-refused
returns-in_err-enter-clause-refused c =
    let kept : (live : List LivePiece) → AreTied c.args.ids live c.args.pieces.now c.args.self.now → AreTied c.args.ids live c.args.pieces.now c.enter.new.self =
    λ live tied. subst (AreTied c.args.ids live c.args.pieces.now) (sym c.in_err-enter.ensures.refused) tied in
    on_err_from _ kept

pub returns-in_err-enter-clause-kept : goal.returns-in_err-enter-clause-kept
returns-in_err-enter-clause-kept c = on_err_from _ (ap told_of c.in_err-enter.ensures.refused)

pub returns-then-branch-clause-tied : goal.returns-then-branch-clause-tied
returns-then-branch-clause-tied c live coming tied =
    tied_entered c.args.ids live c.args.pieces.now c.args.places.now c.args.self.now c.enter.new.self c.args.one.now (c.in_ok-enter.ensures.entered c.if-branch.true) coming tied

pub returns-then-branch-clause-told : goal.returns-then-branch-clause-told
returns-then-branch-clause-told c = told_entered c.args.self.now c.enter.new.self c.args.one.now (c.in_ok-enter.ensures.entered c.if-branch.true)

pub more-requires : goal.more-requires
more-requires c =
    let ids = c.args.ids in
    let live = c.requires.0 in
    let is = sym (c.in_ok-enter.ensures.not c.if-branch.false) ∙ c.in-Linked.is in
    (ids, live, c.requires.1, subst (AreTied ids live c.args.pieces.now) is c.requires.2)

pub returns-in-Linked-clause-tied : goal.returns-in-Linked-clause-tied
returns-in-Linked-clause-tied c =
    let is = sym (c.in_ok-enter.ensures.not c.if-branch.false) ∙ c.in-Linked.is in
    on_ok_weaker c.more.result (λ got live coming tied. got c.args.ids live coming (subst (AreTied c.args.ids live c.args.pieces.now) is tied)) c.more.ensures.paired

pub returns-in-Linked-clause-told : goal.returns-in-Linked-clause-told
returns-in-Linked-clause-told c = on_ok_weaker c.more.result (λ _. inl refl) c.more.ensures.paired

pub returns-in-Linked-clause-refused : goal.returns-in-Linked-clause-refused
returns-in-Linked-clause-refused c =
    let is = sym (c.in_ok-enter.ensures.not c.if-branch.false) ∙ c.in-Linked.is in
    on_err_weaker c.more.result (λ got live tied. got c.args.ids live (subst (AreTied c.args.ids live c.args.pieces.now) is tied)) c.more.ensures.refused

pub returns-in-Linked-clause-kept : goal.returns-in-Linked-clause-kept
returns-in-Linked-clause-kept c =
    let is = sym (c.in_ok-enter.ensures.not c.if-branch.false) ∙ c.in-Linked.is in
    on_err_weaker c.more.result (λ _. sym (ap told_of is)) c.more.ensures.refused

pub of-requires : goal.of-requires
of-requires c = (c.requires.0, c.requires.1)
