-- What some command lines ask for, by computation.
use Rattle.std.proofs.Common.{◌≡◌, true, false, None, Some, [], ◌∷◌, refl}
use Rattle.std.specs.Prelude.{⊤, codes}
use Rattle.slot_order.specs.Order.{most_slots, script_slots}
use Rattle.clap.proofs.OnLiterals.{clap_on_literals}
use Rattle.rule_store.specs.declared.Mode.TheVariants.{Cover, Bits}
use Rattle.batch_order.specs.declared.Placement.TheVariants.{Middle, Rank}
use Rattle.report_lines.specs.declared.Family.TheVariants.{Route, Acl, Route6, Acl6}
use Rattle.option_words.specs.Options.{large_flag, number_position, placement_option, ranges_option, slots_option, trace_flag}
use Rattle.tcam_cli.specs.CommandLine.{acl_app, depth_option, gen_app, job_of, route_app, script_setting, tcam_app, tcam_top, json_flag, names_flag, removals_option, verify_app}
use Rattle.tcam_cli.specs.Headline.{NoJob, Tells, Reads, Makes, Verifies}
use Rattle.tcam_cli.specs.OwnTexts.{HelpOn, Version}
use Rattle.tcam_cli.specs.declared.own_texts.Topic.TheVariants as about

-- what a proof unfolds to compute what words ask for
unfoldable the_declaration : ⊤
unfolding clap_on_literals tcam_app tcam_top route_app acl_app gen_app slots_option ranges_option placement_option trace_flag large_flag json_flag names_flag removals_option depth_option number_position verify_app
the_declaration = tt

unknown : job_of (codes "tcam" ∷ codes "frob" ∷ []) ≡ NoJob
unfolding the_declaration
unknown = refl

nothing-asked : job_of (codes "tcam" ∷ []) ≡ NoJob
unfolding the_declaration
nothing-asked = refl

no-slots : job_of (codes "tcam" ∷ codes "route" ∷ codes "--slots" ∷ codes "0" ∷ []) ≡ NoJob
unfolding the_declaration
no-slots = refl

too-many-slots : job_of (codes "tcam" ∷ codes "route" ∷ codes "--slots" ∷ codes "4097" ∷ []) ≡ NoJob
unfolding the_declaration
too-many-slots = refl

routes : job_of (codes "tcam" ∷ codes "route" ∷ []) ≡ Reads (script_setting Route script_slots Cover Middle false 0 false false false false)
unfolding the_declaration
routes = refl

some-slots : job_of (codes "tcam" ∷ codes "route" ∷ codes "--slots" ∷ codes "8" ∷ []) ≡ Reads (script_setting Route 8 Cover Middle false 0 false false false false)
unfolding the_declaration
some-slots = refl

routes-of-six : job_of (codes "tcam" ∷ codes "route6" ∷ codes "--trace" ∷ codes "--slots" ∷ codes "8" ∷ []) ≡ Reads (script_setting Route6 8 Cover Middle true 0 false false false false)
unfolding the_declaration
routes-of-six = refl

lists-of-six : job_of (codes "tcam" ∷ codes "acl6" ∷ codes "--ranges" ∷ codes "bits" ∷ codes "--placement" ∷ codes "rank" ∷ []) ≡ Reads (script_setting Acl6 script_slots Bits Rank false 0 false false false false)
unfolding the_declaration
lists-of-six = refl

no-ranges-of-six : job_of (codes "tcam" ∷ codes "route6" ∷ codes "--ranges" ∷ codes "bits" ∷ []) ≡ NoJob
unfolding the_declaration
no-ranges-of-six = refl

help-of-six : job_of (codes "tcam" ∷ codes "acl6" ∷ codes "--help" ∷ []) ≡ Tells (HelpOn (Some about.Acl6))
unfolding the_declaration
help-of-six = refl

version : job_of (codes "tcam" ∷ codes "--version" ∷ []) ≡ Tells Version
unfolding the_declaration
version = refl

help-of-routes : job_of (codes "tcam" ∷ codes "route" ∷ codes "--slots" ∷ codes "8" ∷ codes "-h" ∷ []) ≡ Tells (HelpOn (Some about.Route))
unfolding the_declaration
help-of-routes = refl

no-help-command : job_of (codes "tcam" ∷ codes "help" ∷ []) ≡ NoJob
unfolding the_declaration
no-help-command = refl

help : job_of (codes "tcam" ∷ codes "--help" ∷ []) ≡ Tells (HelpOn None)
unfolding the_declaration
help = refl

help-before-a-subcommand : job_of (codes "tcam" ∷ codes "-h" ∷ codes "acl" ∷ []) ≡ Tells (HelpOn None)
unfolding the_declaration
help-before-a-subcommand = refl

help-behind-a-fault : job_of (codes "tcam" ∷ codes "route" ∷ codes "--slots" ∷ codes "0" ∷ codes "--help" ∷ []) ≡ NoJob
unfolding the_declaration
help-behind-a-fault = refl

help-of-a-fault : job_of (codes "tcam" ∷ codes "frob" ∷ codes "--help" ∷ []) ≡ NoJob
unfolding the_declaration
help-of-a-fault = refl

version-of-routes : job_of (codes "tcam" ∷ codes "route" ∷ codes "--version" ∷ []) ≡ NoJob
unfolding the_declaration
version-of-routes = refl

plus : job_of (codes "tcam" ∷ codes "route" ∷ codes "--slots" ∷ codes "+008" ∷ []) ≡ Reads (script_setting Route 8 Cover Middle false 0 false false false false)
unfolding the_declaration
plus = refl

lists : job_of (codes "tcam" ∷ codes "acl" ∷ []) ≡ Reads (script_setting Acl script_slots Cover Middle false 0 false false false false)
unfolding the_declaration
lists = refl

slots-of-lists : job_of (codes "tcam" ∷ codes "acl" ∷ codes "--slots=8" ∷ []) ≡ Reads (script_setting Acl 8 Cover Middle false 0 false false false false)
unfolding the_declaration
slots-of-lists = refl

no-slots-of-lists : job_of (codes "tcam" ∷ codes "acl" ∷ codes "--slots" ∷ codes "0" ∷ []) ≡ NoJob
unfolding the_declaration
no-slots-of-lists = refl

both : job_of (codes "tcam" ∷ codes "acl" ∷ codes "route" ∷ []) ≡ NoJob
unfolding the_declaration
both = refl

help-of-lists : job_of (codes "tcam" ∷ codes "acl" ∷ codes "--help" ∷ []) ≡ Tells (HelpOn (Some about.Acl))
unfolding the_declaration
help-of-lists = refl

traced : job_of (codes "tcam" ∷ codes "route" ∷ codes "--trace" ∷ codes "--slots" ∷ codes "8" ∷ []) ≡ Reads (script_setting Route 8 Cover Middle true 0 false false false false)
unfolding the_declaration
traced = refl

named : job_of (codes "tcam" ∷ codes "route" ∷ codes "--names" ∷ codes "--trace" ∷ codes "--slots" ∷ codes "8" ∷ []) ≡ Reads (script_setting Route 8 Cover Middle true 0 false true false false)
unfolding the_declaration
named = refl

named-lists : job_of (codes "tcam" ∷ codes "acl6" ∷ codes "--names" ∷ []) ≡ Reads (script_setting Acl6 script_slots Cover Middle false 0 false true false false)
unfolding the_declaration
named-lists = refl

named-by-a-value : job_of (codes "tcam" ∷ codes "route" ∷ codes "--names=true" ∷ []) ≡ NoJob
unfolding the_declaration
named-by-a-value = refl

traced-twice : job_of (codes "tcam" ∷ codes "route" ∷ codes "--trace" ∷ codes "--trace" ∷ []) ≡ NoJob
unfolding the_declaration
traced-twice = refl

in-json : job_of (codes "tcam" ∷ codes "route" ∷ codes "--slots" ∷ codes "8" ∷ codes "--json" ∷ []) ≡ Reads (script_setting Route 8 Cover Middle false 0 true false false false)
unfolding the_declaration
in-json = refl

lists-in-json : job_of (codes "tcam" ∷ codes "acl" ∷ codes "--json" ∷ codes "--ranges" ∷ codes "bits" ∷ []) ≡ Reads (script_setting Acl script_slots Bits Middle false 0 true false false false)
unfolding the_declaration
lists-in-json = refl

json-of-six : job_of (codes "tcam" ∷ codes "route6" ∷ codes "--json" ∷ []) ≡ Reads (script_setting Route6 script_slots Cover Middle false 0 true false false false)
unfolding the_declaration
json-of-six = refl

traced-by-a-value : job_of (codes "tcam" ∷ codes "route" ∷ codes "--trace=true" ∷ []) ≡ NoJob
unfolding the_declaration
traced-by-a-value = refl

traced-lists : job_of (codes "tcam" ∷ codes "acl" ∷ codes "--trace" ∷ []) ≡ Reads (script_setting Acl script_slots Cover Middle true 0 false false false false)
unfolding the_declaration
traced-lists = refl

by-rank : job_of (codes "tcam" ∷ codes "route" ∷ codes "--placement" ∷ codes "rank" ∷ []) ≡ Reads (script_setting Route script_slots Cover Rank false 0 false false false false)
unfolding the_declaration
by-rank = refl

by-the-middle : job_of (codes "tcam" ∷ codes "route" ∷ codes "--placement" ∷ codes "middle" ∷ []) ≡ Reads (script_setting Route script_slots Cover Middle false 0 false false false false)
unfolding the_declaration
by-the-middle = refl

lists-by-rank : job_of (codes "tcam" ∷ codes "acl" ∷ codes "--trace" ∷ codes "--placement=rank" ∷ codes "--slots" ∷ codes "8" ∷ []) ≡ Reads (script_setting Acl 8 Cover Rank true 0 false false false false)
unfolding the_declaration
lists-by-rank = refl

by-no-such-word : job_of (codes "tcam" ∷ codes "route" ∷ codes "--placement" ∷ codes "Rank" ∷ []) ≡ NoJob
unfolding the_declaration
by-no-such-word = refl

lists-by-no-such-word : job_of (codes "tcam" ∷ codes "acl" ∷ codes "--placement=end" ∷ []) ≡ NoJob
unfolding the_declaration
lists-by-no-such-word = refl

by-an-empty-word : job_of (codes "tcam" ∷ codes "acl" ∷ codes "--placement=" ∷ []) ≡ NoJob
unfolding the_declaration
by-an-empty-word = refl

by-a-missing-word : job_of (codes "tcam" ∷ codes "route" ∷ codes "--placement" ∷ []) ≡ NoJob
unfolding the_declaration
by-a-missing-word = refl

by-a-flag : job_of (codes "tcam" ∷ codes "acl" ∷ codes "--placement" ∷ codes "--trace" ∷ []) ≡ NoJob
unfolding the_declaration
by-a-flag = refl

by-two-words : job_of (codes "tcam" ∷ codes "route" ∷ codes "--placement" ∷ codes "rank" ∷ codes "--placement" ∷ codes "rank" ∷ []) ≡ NoJob
unfolding the_declaration
by-two-words = refl

by-two-words-at-once : job_of (codes "tcam" ∷ codes "acl" ∷ codes "--placement" ∷ codes "middle" ∷ codes "rank" ∷ []) ≡ NoJob
unfolding the_declaration
by-two-words-at-once = refl

made : job_of (codes "tcam" ∷ codes "gen" ∷ codes "1" ∷ codes "1" ∷ codes "2" ∷ []) ≡ Makes (script_setting Acl script_slots Cover Middle false 0 false false false false) 1 1 2
unfolding the_declaration
made = refl

made-in-few-slots : job_of (codes "tcam" ∷ codes "gen" ∷ codes "1" ∷ codes "--slots" ∷ codes "8" ∷ codes "--placement=rank" ∷ codes "256" ∷ codes "64" ∷ []) ≡ Makes (script_setting Acl 8 Cover Rank false 0 false false false false) 1 256 64
unfolding the_declaration
made-in-few-slots = refl

made-of-the-greatest-seed : job_of (codes "tcam" ∷ codes "gen" ∷ codes "2147483647" ∷ codes "1" ∷ codes "1" ∷ []) ≡ Makes (script_setting Acl script_slots Cover Middle false 0 false false false false) 2147483647 1 1
unfolding the_declaration
made-of-the-greatest-seed = refl

made-of-too-great-a-seed : job_of (codes "tcam" ∷ codes "gen" ∷ codes "2147483648" ∷ codes "1" ∷ codes "1" ∷ []) ≡ NoJob
unfolding the_declaration
made-of-too-great-a-seed = refl

made-of-no-rules : job_of (codes "tcam" ∷ codes "gen" ∷ codes "0" ∷ codes "0" ∷ codes "1" ∷ []) ≡ NoJob
unfolding the_declaration
made-of-no-rules = refl

made-of-too-many-rules : job_of (codes "tcam" ∷ codes "gen" ∷ codes "0" ∷ codes "257" ∷ codes "1" ∷ []) ≡ NoJob
unfolding the_declaration
made-of-too-many-rules = refl

made-in-no-batches : job_of (codes "tcam" ∷ codes "gen" ∷ codes "0" ∷ codes "1" ∷ codes "0" ∷ []) ≡ NoJob
unfolding the_declaration
made-in-no-batches = refl

made-in-too-many-batches : job_of (codes "tcam" ∷ codes "gen" ∷ codes "0" ∷ codes "1" ∷ codes "65" ∷ []) ≡ NoJob
unfolding the_declaration
made-in-too-many-batches = refl

made-of-two-numbers : job_of (codes "tcam" ∷ codes "gen" ∷ codes "1" ∷ codes "1" ∷ []) ≡ NoJob
unfolding the_declaration
made-of-two-numbers = refl

made-of-four-numbers : job_of (codes "tcam" ∷ codes "gen" ∷ codes "1" ∷ codes "1" ∷ codes "1" ∷ codes "1" ∷ []) ≡ NoJob
unfolding the_declaration
made-of-four-numbers = refl

made-of-a-word : job_of (codes "tcam" ∷ codes "gen" ∷ codes "1" ∷ codes "1" ∷ codes "one" ∷ []) ≡ NoJob
unfolding the_declaration
made-of-a-word = refl

made-of-less-than-nothing : job_of (codes "tcam" ∷ codes "gen" ∷ codes "-1" ∷ codes "1" ∷ codes "1" ∷ []) ≡ NoJob
unfolding the_declaration
made-of-less-than-nothing = refl

made-in-no-slots : job_of (codes "tcam" ∷ codes "gen" ∷ codes "1" ∷ codes "1" ∷ codes "1" ∷ codes "--slots" ∷ codes "0" ∷ []) ≡ NoJob
unfolding the_declaration
made-in-no-slots = refl

made-by-no-such-word : job_of (codes "tcam" ∷ codes "gen" ∷ codes "1" ∷ codes "1" ∷ codes "1" ∷ codes "--placement" ∷ codes "end" ∷ []) ≡ NoJob
unfolding the_declaration
made-by-no-such-word = refl

made-with-a-trace : job_of (codes "tcam" ∷ codes "gen" ∷ codes "1" ∷ codes "1" ∷ codes "1" ∷ codes "--trace" ∷ []) ≡ NoJob
unfolding the_declaration
made-with-a-trace = refl

made-in-bits : job_of (codes "tcam" ∷ codes "gen" ∷ codes "1" ∷ codes "1" ∷ codes "1" ∷ codes "--ranges" ∷ codes "bits" ∷ []) ≡ Makes (script_setting Acl script_slots Bits Middle false 0 false false false false) 1 1 1
unfolding the_declaration
made-in-bits = refl

lists-in-bits : job_of (codes "tcam" ∷ codes "acl" ∷ codes "--ranges" ∷ codes "bits" ∷ []) ≡ Reads (script_setting Acl script_slots Bits Middle false 0 false false false false)
unfolding the_declaration
lists-in-bits = refl

lists-in-bits-by-rank : job_of (codes "tcam" ∷ codes "acl" ∷ codes "--placement" ∷ codes "rank" ∷ codes "--ranges=bits" ∷ codes "--trace" ∷ codes "--slots" ∷ codes "8" ∷ []) ≡ Reads (script_setting Acl 8 Bits Rank true 0 false false false false)
unfolding the_declaration
lists-in-bits-by-rank = refl

deep : job_of (codes "tcam" ∷ codes "route6" ∷ codes "--depth" ∷ codes "15" ∷ []) ≡ Reads (script_setting Route6 script_slots Cover Middle false 15 false false false false)
unfolding the_declaration
deep = refl

too-deep : job_of (codes "tcam" ∷ codes "acl" ∷ codes "--depth=16" ∷ []) ≡ NoJob
unfolding the_declaration
too-deep = refl

made-in-depth : job_of (codes "tcam" ∷ codes "gen" ∷ codes "1" ∷ codes "1" ∷ codes "1" ∷ codes "--depth" ∷ codes "1" ∷ []) ≡ NoJob
unfolding the_declaration
made-in-depth = refl

lists-in-covers : job_of (codes "tcam" ∷ codes "acl" ∷ codes "--ranges" ∷ codes "cover" ∷ []) ≡ Reads (script_setting Acl script_slots Cover Middle false 0 false false false false)
unfolding the_declaration
lists-in-covers = refl

lists-in-no-such-word : job_of (codes "tcam" ∷ codes "acl" ∷ codes "--ranges" ∷ codes "Bits" ∷ []) ≡ NoJob
unfolding the_declaration
lists-in-no-such-word = refl

lists-in-an-empty-word : job_of (codes "tcam" ∷ codes "acl" ∷ codes "--ranges=" ∷ []) ≡ NoJob
unfolding the_declaration
lists-in-an-empty-word = refl

lists-in-a-missing-word : job_of (codes "tcam" ∷ codes "acl" ∷ codes "--ranges" ∷ []) ≡ NoJob
unfolding the_declaration
lists-in-a-missing-word = refl

lists-in-two-words : job_of (codes "tcam" ∷ codes "acl" ∷ codes "--ranges" ∷ codes "bits" ∷ codes "--ranges" ∷ codes "bits" ∷ []) ≡ NoJob
unfolding the_declaration
lists-in-two-words = refl

routes-in-bits : job_of (codes "tcam" ∷ codes "route" ∷ codes "--ranges" ∷ codes "bits" ∷ []) ≡ NoJob
unfolding the_declaration
routes-in-bits = refl

routes-in-covers : job_of (codes "tcam" ∷ codes "route" ∷ codes "--ranges" ∷ codes "cover" ∷ []) ≡ NoJob
unfolding the_declaration
routes-in-covers = refl

made-in-no-such-word : job_of (codes "tcam" ∷ codes "gen" ∷ codes "1" ∷ codes "1" ∷ codes "1" ∷ codes "--ranges" ∷ codes "cover,bits" ∷ []) ≡ NoJob
unfolding the_declaration
made-in-no-such-word = refl

help-of-made-commands : job_of (codes "tcam" ∷ codes "gen" ∷ codes "--help" ∷ []) ≡ Tells (HelpOn (Some about.Gen))
unfolding the_declaration
help-of-made-commands = refl

checked : job_of (codes "tcam" ∷ codes "verify" ∷ []) ≡ Verifies
unfolding the_declaration
checked = refl

checked-in-slots : job_of (codes "tcam" ∷ codes "verify" ∷ codes "--slots" ∷ codes "8" ∷ []) ≡ NoJob
unfolding the_declaration
checked-in-slots = refl

checked-by-a-name : job_of (codes "tcam" ∷ codes "verify" ∷ codes "trace.jsonl" ∷ []) ≡ NoJob
unfolding the_declaration
checked-by-a-name = refl

help-of-checks : job_of (codes "tcam" ∷ codes "verify" ∷ codes "--help" ∷ []) ≡ Tells (HelpOn (Some about.Verify))
unfolding the_declaration
help-of-checks = refl

-- ---- the large sizes

large : job_of (codes "tcam" ∷ codes "route" ∷ codes "--large" ∷ codes "--slots" ∷ codes "1048576" ∷ []) ≡ Reads (script_setting Route most_slots Cover Middle false 0 false false false true)
unfolding the_declaration
large = refl

large-by-default : job_of (codes "tcam" ∷ codes "acl6" ∷ codes "--large" ∷ []) ≡ Reads (script_setting Acl6 script_slots Cover Middle false 0 false false false true)
unfolding the_declaration
large-by-default = refl

too-many-slots-of-large : job_of (codes "tcam" ∷ codes "acl" ∷ codes "--large" ∷ codes "--slots" ∷ codes "1048577" ∷ []) ≡ NoJob
unfolding the_declaration
too-many-slots-of-large = refl

large-in-json : job_of (codes "tcam" ∷ codes "route6" ∷ codes "--json" ∷ codes "--large" ∷ []) ≡ NoJob
unfolding the_declaration
large-in-json = refl

made-of-large : job_of (codes "tcam" ∷ codes "gen" ∷ codes "1" ∷ codes "1" ∷ codes "1" ∷ codes "--large" ∷ []) ≡ NoJob
unfolding the_declaration
made-of-large = refl
