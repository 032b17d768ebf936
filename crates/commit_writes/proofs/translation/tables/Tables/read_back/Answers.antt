use Rattle.std.proofs.Common.{◌≡◌, ℕ, List, [], ap, ◌∙◌, refl, length}
use Rattle.tcam_device.specs.State.{State}
use Rattle.tcam_device.specs.View.{device_state, journal}
use Rattle.rule_model.specs.declared.Field.TheVariants.{Src, Dst}
use Rattle.commit_writes.proofs.ReadBack.{table_size}
use Rattle.commit_writes.proofs.translation.tables.Tables.read_back.Goals as goal

tables_are : (state : State) (src dst : List ℕ) → src ≡ state.src → dst ≡ state.dst → ◌≡◌ {A = State} (record { slots = []; src = src; dst = dst }) (record state { slots = [] })
tables_are state src dst s d =
    ap (λ (l : List ℕ). let made : State = record { slots = []; src = l; dst = dst } in made) s
    ∙ ap (λ (l : List ℕ). let made : State = record { slots = []; src = state.src; dst = l } in made) d

pub returns : goal.returns
returns g c = tables_are (device_state (g.D.Writable.view c.args.device.now)) c.in_ok-src.src.items c.in_ok-dst.dst.items c.in_ok-src.ensures.words c.in_ok-dst.ensures.words

pub invariant_of-result : goal.invariant_of-result
invariant_of-result g c =
    let slots = (g.D.Writable.view c.args.device.now).slots in
    let writes = journal (g.D.Writable.view c.args.device.now) in
    record {
      size = refl;
      src_size = ap length c.in_ok-src.ensures.words ∙ table_size Src slots writes;
      dst_size = ap length c.in_ok-dst.ensures.words ∙ table_size Dst slots writes;
      src_words = c.in_ok-src.ensures.short;
      dst_words = c.in_ok-dst.ensures.short;
    }
