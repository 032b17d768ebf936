-- What some command lines ask for, by computation.
use Rattle.std.proofs.Common.{◌≡◌, [], ◌∷◌, true, false, refl}
use Rattle.std.specs.Prelude.{⊤, codes}
use Rattle.slot_order.specs.Order.{most_slots, script_slots}
use Rattle.clap.proofs.OnLiterals.{clap_on_literals}
use Rattle.rule_model.specs.declared.IpVersion.TheVariants.{V4, V6}
use Rattle.rule_store.specs.declared.Mode.TheVariants.{Cover, Bits}
use Rattle.batch_order.specs.declared.Placement.TheVariants.{Middle, Rank}
use Rattle.option_words.specs.Options.{large_flag, placement_option, ranges_option, slots_option, trace_flag}
use Rattle.router_cli.specs.CommandLine.{NoJob, Tells, Routes, router_app, router_job, router_line, router_top}
use Rattle.router_cli.specs.OwnTexts.{router_help}

-- what a proof unfolds to compute what words ask for
unfoldable the_declaration : ⊤
unfolding clap_on_literals router_line router_top router_app slots_option ranges_option placement_option trace_flag large_flag
the_declaration = tt

plain : router_job (codes "tcam" ∷ codes "router" ∷ []) ≡ Routes V4 script_slots Cover Middle false false
unfolding the_declaration
plain = refl

some-slots : router_job (codes "tcam" ∷ codes "router" ∷ codes "--slots" ∷ codes "8" ∷ []) ≡ Routes V4 8 Cover Middle false false
unfolding the_declaration
some-slots = refl

in-bits : router_job (codes "tcam" ∷ codes "router" ∷ codes "--ranges=bits" ∷ codes "--placement" ∷ codes "rank" ∷ []) ≡ Routes V4 script_slots Bits Rank false false
unfolding the_declaration
in-bits = refl

traced : router_job (codes "tcam" ∷ codes "router" ∷ codes "--trace" ∷ codes "--slots" ∷ codes "8" ∷ []) ≡ Routes V4 8 Cover Middle true false
unfolding the_declaration
traced = refl

traced-by-a-value : router_job (codes "tcam" ∷ codes "router" ∷ codes "--trace=true" ∷ []) ≡ NoJob
unfolding the_declaration
traced-by-a-value = refl

no-slots : router_job (codes "tcam" ∷ codes "router" ∷ codes "--slots" ∷ codes "0" ∷ []) ≡ NoJob
unfolding the_declaration
no-slots = refl

no-such-ranges : router_job (codes "tcam" ∷ codes "router" ∷ codes "--ranges" ∷ codes "Bits" ∷ []) ≡ NoJob
unfolding the_declaration
no-such-ranges = refl

no-such-placement : router_job (codes "tcam" ∷ codes "router" ∷ codes "--placement=end" ∷ []) ≡ NoJob
unfolding the_declaration
no-such-placement = refl

no-depth : router_job (codes "tcam" ∷ codes "router" ∷ codes "--depth" ∷ codes "1" ∷ []) ≡ NoJob
unfolding the_declaration
no-depth = refl

of-six : router_job (codes "tcam" ∷ codes "router6" ∷ codes "--slots" ∷ codes "8" ∷ []) ≡ Routes V6 8 Cover Middle false false
unfolding the_declaration
of-six = refl

help-of-six : router_job (codes "tcam" ∷ codes "router6" ∷ codes "--help" ∷ []) ≡ Tells router_help
unfolding the_declaration
help-of-six = refl

another : router_job (codes "tcam" ∷ codes "route" ∷ []) ≡ NoJob
unfolding the_declaration
another = refl

help : router_job (codes "tcam" ∷ codes "router" ∷ codes "--help" ∷ []) ≡ Tells router_help
unfolding the_declaration
help = refl

version : router_job (codes "tcam" ∷ codes "router" ∷ codes "--version" ∷ []) ≡ NoJob
unfolding the_declaration
version = refl

large : router_job (codes "tcam" ∷ codes "router" ∷ codes "--large" ∷ codes "--slots" ∷ codes "1048576" ∷ []) ≡ Routes V4 most_slots Cover Middle false true
unfolding the_declaration
large = refl

large-by-default : router_job (codes "tcam" ∷ codes "router6" ∷ codes "--large" ∷ []) ≡ Routes V6 script_slots Cover Middle false true
unfolding the_declaration
large-by-default = refl

too-many-slots : router_job (codes "tcam" ∷ codes "router" ∷ codes "--slots" ∷ codes "4097" ∷ []) ≡ NoJob
unfolding the_declaration
too-many-slots = refl

too-many-slots-of-large : router_job (codes "tcam" ∷ codes "router" ∷ codes "--slots" ∷ codes "1048577" ∷ codes "--large" ∷ []) ≡ NoJob
unfolding the_declaration
too-many-slots-of-large = refl
