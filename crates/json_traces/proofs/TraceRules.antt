-- The rules of a set and the pieces of a commit are those of a trace where its commands are.
use Rattle.std.proofs.Common.{◌≡◌, ℕ, ◌^◌, ◌<◌, Bool, true, false, Option, Some, None, List, [], ◌∷◌, map, Contains, cond, inl, inr, refl, sym, ap, ◌∙◌, subst}
use Rattle.std.specs.Prelude.{unwrap_or, nat_eq}
use Rattle.std.specs.List.{AllByRecursion}
use Rattle.slot_order.proofs.Lists.{AllByRecursion-member, in_map}
use Rattle.rule_model.specs.declared.Rule.{Rule}
use Rattle.rule_model.specs.declared.Piece.{Piece}
use Rattle.rule_model.specs.declared.IpVersion.{IpVersion}
use Rattle.rule_model.specs.declared.IpVersion.TheVariants.{V4, V6}
use Rattle.rule_model.specs.PortRange.{PortRange, cover}
use Rattle.rule_model.specs.Piece.{piece_of}
use Rattle.rule_model.specs.Rule.{HasConditions}
use Rattle.rule_model.specs.Entry.{RankedPiece}
use Rattle.rule_store.specs.declared.Mode.{Mode}
use Rattle.rule_store.specs.declared.Mode.TheVariants.{Cover, Bits}
use Rattle.rule_store.specs.declared.Command.{Command as Change}
use Rattle.rule_store.specs.declared.Command.TheVariants as change
use Rattle.rule_store.specs.Batch.{ChangesRules, additions, new_result, result_after, set_after}
use Rattle.rule_store.specs.Verdict.{pieces_of}
use Rattle.rule_store.proofs.Members.{set_after-member}
use Rattle.tcam_device.specs.State.{State, state_after}
use Rattle.commit_writes.specs.Bits.{FieldBits, bits_with}
use Rattle.commit_writes.specs.Planned.{IsServedBy}
use Rattle.commit_writes.specs.Segments.{MayBegin}
use Rattle.commit_writes.specs.Shape.{set_pieces, fresh_writes}
use Rattle.commit_writes.proofs.BatchRules.{IsSoundChange}
use Rattle.commit_writes.proofs.Filters.{all_members, in_images}
use Rattle.commit_writes.proofs.ModePieces.{whole_only}
use Rattle.commit_writes.proofs.ServedLive.{change_begun, bits_begun}
use Rattle.commit_writes.proofs.ServedTables.{tables_serve}
use Rattle.commit_writes.proofs.SetPieces.{IsChosen, in_chosen}
use Rattle.readback.specs.Tasks.{CommitPieces, commit_pieces, known_pieces}
use Rattle.readback.proofs.Facts.{known_cases}
use Rattle.readback.proofs.Pieces.{pieces_lead, served}
use Rattle.readback.proofs.Shows.{LeadTo}
use Rattle.trace_file.specs.Forms.{IsTraceRank, IsTraceRule, IsTraceLineOf}
use Rattle.replay.specs.JsonLines.{change_line}
use Rattle.json_traces.proofs.TraceWords.{IsTraceBlock, IsTraceRanked}

-- a command as a trace of this version has it
abbrev pub IsTraceChange : IpVersion → Change → Type 0
IsTraceChange version one = IsTraceLineOf version (change_line one)

-- what a rule has, of either version
record HasLimits (version : IpVersion) (rule : Rule) : Type 0 where
  priority : IsTraceRank version rule.priority
  right : HasConditions rule
  src : IsTraceBlock version rule.src
  dst : IsTraceBlock version rule.dst
  result : rule.result < 2 ^ 32

limits : (version : IpVersion) (rule : Rule) → IsTraceRule version rule → HasLimits version rule
limits V4 rule is = record { priority = is.priority; right = is.right; src = is.src; dst = is.dst; result = is.result }
limits V6 rule is = record { priority = is.priority; right = is.right; src = tt; dst = tt; result = is.result }

-- with another result
other_result : (version : IpVersion) (rule : Rule) (answer : ℕ) → IsTraceRule version rule → answer < 2 ^ 32 → IsTraceRule version (record rule { result = answer })
other_result V4 rule answer is small = record { priority = is.priority; right = is.right; src = is.src; dst = is.dst; result = small }
other_result V6 rule answer is small = record { priority = is.priority; right = is.right; result = small }

-- the conditions of what it adds are right
pub told_changes : (version : IpVersion) (one : Change) → IsTraceChange version one → ChangesRules one
told_changes version (change.Add rule) is = (limits version rule is).right
told_changes version (change.Set priority answer) is = tt
told_changes version (change.Del priority) is = tt

-- ---- the set after a batch

additions_told : (version : IpVersion) (batch : List Change) → AllByRecursion (IsTraceChange version) batch → AllByRecursion (IsTraceRule version) (additions batch)
additions_told version [] told = tt
additions_told version (change.Add rule ∷ batch) told = (told.0, additions_told version batch told.1)
additions_told version (change.Set priority answer ∷ batch) told = additions_told version batch told.1
additions_told version (change.Del priority ∷ batch) told = additions_told version batch told.1

small_or : (found : Option ℕ) (other : ℕ) → ((answer : ℕ) → found ≡ Some answer → answer < 2 ^ 32) → other < 2 ^ 32 → unwrap_or found other < 2 ^ 32
small_or None other each small = small
small_or (Some answer) other each small = each answer refl

-- a result that a command gives is small
given_small : (version : IpVersion) (priority : ℕ) (one : Change) → IsTraceChange version one → (answer : ℕ) → new_result priority one ≡ Some answer → answer < 2 ^ 32
given_small version priority (change.Add rule) is answer found = absurd (let wrong : ◌≡◌ {A = Option ℕ} None (Some answer) = found in cc)
given_small version priority (change.Del removed) is answer found = absurd (let wrong : ◌≡◌ {A = Option ℕ} None (Some answer) = found in cc)
given_small version priority (change.Set changed result) is answer found = go (nat_eq changed priority) found
  where
    go : (same : Bool) → cond same (Some result) None ≡ Some answer → answer < 2 ^ 32
    go true given = subst (λ n. n < 2 ^ 32) (let e : result ≡ answer = cc in e) is.1
    go false given = absurd (cc)

result_small : (version : IpVersion) (batch : List Change) (priority old : ℕ) → AllByRecursion (IsTraceChange version) batch → old < 2 ^ 32 → result_after batch priority old < 2 ^ 32
result_small version [] priority old told small = small
result_small version (one ∷ batch) priority old told small =
    small_or (new_result priority one) (result_after batch priority old) (given_small version priority one told.0) (result_small version batch priority old told.1 small)

pub set_told : (version : IpVersion) (rules : List Rule) (batch : List Change) → AllByRecursion (IsTraceRule version) rules → AllByRecursion (IsTraceChange version) batch → AllByRecursion (IsTraceRule version) (set_after rules batch)
set_told version rules batch are told = all_members (IsTraceRule version) (set_after rules batch) (λ rule member. elim ((set_after-member rules batch rule).0 member) [
  | inl new ↦ AllByRecursion-member (IsTraceRule version) (additions batch) rule (additions_told version batch told) new
  | inr kept ↦
      let was = AllByRecursion-member (IsTraceRule version) rules kept.0 are kept.1 in
      let answer = result_after batch kept.0.priority kept.0.result in
      subst (IsTraceRule version) (sym kept.3) (other_result version kept.0 answer was (result_small version batch kept.0.priority kept.0.result told (limits version kept.0 was).result))
])

-- ---- the pieces of a commit

-- a piece has the addresses of its rule
piece_ends : (mode : Mode) (rule : Rule) (piece : Piece) → Contains (pieces_of mode rule) piece → (piece.src ≡ rule.src) × (piece.dst ≡ rule.dst)
piece_ends Cover rule piece member =
    let w = in_images (λ (sport : PortRange). map (λ (dport : PortRange). piece_of rule sport dport) (cover rule.dport)) (cover rule.sport) piece member in
    let m = in_map (λ (dport : PortRange). piece_of rule w.0 dport) (cover rule.dport) piece w.2 in
    (ap (λ (p : Piece). p.src) (sym m.2), ap (λ (p : Piece). p.dst) (sym m.2))
piece_ends Bits rule piece member =
    let same = whole_only rule piece member in
    (ap (λ (p : Piece). p.src) (sym same), ap (λ (p : Piece). p.dst) (sym same))

-- a piece of a set of such rules
set_ranked : (version : IpVersion) (mode : Mode) (bits : FieldBits) (rules : List Rule) (state : State) (x : RankedPiece) → AllByRecursion (IsTraceRule version) rules → Contains (set_pieces mode bits rules) x → IsServedBy state x → IsTraceRanked version x
set_ranked version mode bits rules state x are member serves =
    let is : IsChosen bits (pieces_of mode) rules x = in_chosen bits (pieces_of mode) rules x member in
    let rule = limits version is.rule (AllByRecursion-member (IsTraceRule version) rules is.rule are is.member) in
    let ends = piece_ends mode is.rule is.piece is.has in
    let src : is.rule.src ≡ x.piece.src = sym ends.0 ∙ ap (λ (p : Piece). p.src) is.piece_is in
    let dst : is.rule.dst ≡ x.piece.dst = sym ends.1 ∙ ap (λ (p : Piece). p.dst) is.piece_is in
    record {
      right = serves.right;
      src = subst (IsTraceBlock version) src rule.src;
      dst = subst (IsTraceBlock version) dst rule.dst;
      encodable = serves.encodable;
      rank = subst (IsTraceRank version) (sym is.rank_is) rule.priority;
      result = subst (λ n. n < 2 ^ 32) (sym is.result_is) rule.result;
    }

-- so is each that may stand while a commit is made
pub known_ranked : (version : IpVersion) (mode : Mode) (bits : FieldBits) (rules : List Rule) (batch : List Change) (state : State) → MayBegin mode bits rules batch state
    → AllByRecursion (IsTraceRule version) rules → AllByRecursion (IsTraceChange version) batch → (x : RankedPiece) → Contains (known_pieces (commit_pieces mode bits rules batch)) x → IsTraceRanked version x
known_ranked version mode bits rules batch state begin are told x member =
    let during = bits_with mode rules batch bits in
    let p : CommitPieces = commit_pieces mode bits rules batch in
    let later = set_after rules batch in
    let behind : State = state_after state (fresh_writes mode bits rules batch state) in
    let change : IsSoundChange rules batch = change_begun mode bits rules batch state begin in
    let leads : LeadTo p (set_pieces mode during later) = pieces_lead mode bits rules batch change in
    let serves : IsServedBy behind x = served mode bits rules batch change behind (tables_serve mode bits rules batch state (bits_begun mode bits rules batch state begin)) x member in
    elim (known_cases p x member) [
      | inl old ↦ set_ranked version mode during rules behind x are old serves
      | inr new ↦ elim new [
        | inl put ↦ set_ranked version mode during later behind x (set_told version rules batch are told) (leads.inserted_new x put) serves
        | inr changed ↦ set_ranked version mode during later behind x (set_told version rules batch are told) (leads.rewritten_new x changed) serves
      ]
    ]
