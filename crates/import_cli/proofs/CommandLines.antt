-- What some command lines ask for, by computation.
use Rattle.std.proofs.Common.{◌≡◌, [], ◌∷◌, true, false, refl}
use Rattle.std.specs.Prelude.{⊤, codes}
use Rattle.clap.proofs.OnLiterals.{clap_on_literals}
use Rattle.rule_model.specs.declared.IpVersion.TheVariants.{V4, V6}
use Rattle.import_cli.specs.declared.asked.Format.TheVariants.{IpRoutes, IpMonitor, Cisco, Fpm, Iptables, Nft}
use Rattle.iptables.specs.declared.lines.Hook.TheVariants.{Forward, Input, Output}
use Rattle.import_cli.specs.CommandLine.{NoJob, Tells, Imports, chain_option, format_position, import_app, import_job, import_line, import_top, in_option, leave_out_flag, list_option, since_option, version_option}
use Rattle.import_cli.specs.ChainName.{input_chain}
use Rattle.import_cli.specs.OwnTexts.{import_help}

-- what a proof unfolds to compute what words ask for
unfoldable the_declaration : ⊤
unfolding clap_on_literals import_line import_top import_app format_position version_option leave_out_flag list_option chain_option in_option since_option
the_declaration = tt

plain : import_job (codes "tcam" ∷ codes "import" ∷ codes "ip-routes" ∷ []) ≡ Imports IpRoutes V4 false
unfolding the_declaration
plain = refl

of-six : import_job (codes "tcam" ∷ codes "import" ∷ codes "ip-monitor" ∷ codes "--version" ∷ codes "6" ∷ []) ≡ Imports IpMonitor V6 false
unfolding the_declaration
of-six = refl

left-out : import_job (codes "tcam" ∷ codes "import" ∷ codes "--leave-out" ∷ codes "ip-routes" ∷ []) ≡ Imports IpRoutes V4 true
unfolding the_declaration
left-out = refl

no-format : import_job (codes "tcam" ∷ codes "import" ∷ []) ≡ NoJob
unfolding the_declaration
no-format = refl

no-such-format : import_job (codes "tcam" ∷ codes "import" ∷ codes "ip-rules" ∷ []) ≡ NoJob
unfolding the_declaration
no-such-format = refl

no-such-version : import_job (codes "tcam" ∷ codes "import" ∷ codes "ip-routes" ∷ codes "--version=5" ∷ []) ≡ NoJob
unfolding the_declaration
no-such-version = refl

help : import_job (codes "tcam" ∷ codes "import" ∷ codes "--help" ∷ []) ≡ Tells import_help
unfolding the_declaration
help = refl

another : import_job (codes "tcam" ∷ codes "route" ∷ []) ≡ NoJob
unfolding the_declaration
another = refl

a-list : import_job (codes "tcam" ∷ codes "import" ∷ codes "cisco" ∷ codes "--list" ∷ codes "EDGE" ∷ []) ≡ Imports (Cisco (codes "EDGE")) V4 false
unfolding the_declaration
a-list = refl

list-of-routes : import_job (codes "tcam" ∷ codes "import" ∷ codes "ip-routes" ∷ codes "--list" ∷ codes "EDGE" ∷ []) ≡ NoJob
unfolding the_declaration
list-of-routes = refl

list-of-six : import_job (codes "tcam" ∷ codes "import" ∷ codes "cisco" ∷ codes "--version" ∷ codes "6" ∷ []) ≡ NoJob
unfolding the_declaration
list-of-six = refl

frames-of-six : import_job (codes "tcam" ∷ codes "import" ∷ codes "fpm" ∷ codes "--version" ∷ codes "6" ∷ []) ≡ Imports Fpm V6 false
unfolding the_declaration
frames-of-six = refl

a-chain : import_job (codes "tcam" ∷ codes "import" ∷ codes "iptables" ∷ codes "--chain" ∷ codes "OUTPUT" ∷ []) ≡ Imports (Iptables Output []) V4 false
unfolding the_declaration
a-chain = refl

chain-of-routes : import_job (codes "tcam" ∷ codes "import" ∷ codes "ip-routes" ∷ codes "--chain" ∷ codes "INPUT" ∷ []) ≡ NoJob
unfolding the_declaration
chain-of-routes = refl

no-such-chain : import_job (codes "tcam" ∷ codes "import" ∷ codes "iptables" ∷ codes "--chain" ∷ codes "PREROUTING" ∷ []) ≡ NoJob
unfolding the_declaration
no-such-chain = refl

an-interface : import_job (codes "tcam" ∷ codes "import" ∷ codes "iptables" ∷ codes "--chain" ∷ codes "FORWARD" ∷ codes "--in" ∷ codes "eth0" ∷ []) ≡ Imports (Iptables Forward (codes "eth0")) V4 false
unfolding the_declaration
an-interface = refl

interface-of-output : import_job (codes "tcam" ∷ codes "import" ∷ codes "iptables" ∷ codes "--chain" ∷ codes "OUTPUT" ∷ codes "--in" ∷ codes "eth0" ∷ []) ≡ NoJob
unfolding the_declaration
interface-of-output = refl

interface-of-routes : import_job (codes "tcam" ∷ codes "import" ∷ codes "ip-routes" ∷ codes "--in" ∷ codes "eth0" ∷ []) ≡ NoJob
unfolding the_declaration
interface-of-routes = refl

no-such-interface : import_job (codes "tcam" ∷ codes "import" ∷ codes "iptables" ∷ codes "--in" ∷ codes "eth0:1" ∷ []) ≡ NoJob
unfolding the_declaration
no-such-interface = refl

a-ruleset : import_job (codes "tcam" ∷ codes "import" ∷ codes "nft" ∷ []) ≡ Imports (Nft input_chain) V4 false
unfolding the_declaration
a-ruleset = refl

chain-of-a-ruleset : import_job (codes "tcam" ∷ codes "import" ∷ codes "nft" ∷ codes "--chain" ∷ codes "ip t in" ∷ codes "--version" ∷ codes "6" ∷ [])
    ≡ Imports (Nft (record { family = codes "ip"; table = codes "t"; name = codes "in" })) V6 false
unfolding the_declaration
chain-of-a-ruleset = refl

chain-of-no-table : import_job (codes "tcam" ∷ codes "import" ∷ codes "nft" ∷ codes "--chain" ∷ codes "INPUT" ∷ []) ≡ NoJob
unfolding the_declaration
chain-of-no-table = refl

interface-of-a-ruleset : import_job (codes "tcam" ∷ codes "import" ∷ codes "nft" ∷ codes "--in" ∷ codes "eth0" ∷ []) ≡ NoJob
unfolding the_declaration
interface-of-a-ruleset = refl

since-file : import_job (codes "tcam" ∷ codes "import" ∷ codes "iptables" ∷ codes "--since" ∷ codes "old" ∷ []) ≡ Imports (Iptables Input []) V4 false
unfolding the_declaration
since-file = refl

since-of-routes : import_job (codes "tcam" ∷ codes "import" ∷ codes "ip-routes" ∷ codes "--since=old" ∷ []) ≡ NoJob
unfolding the_declaration
since-of-routes = refl

since-no-file : import_job (codes "tcam" ∷ codes "import" ∷ codes "iptables" ∷ codes "--since=" ∷ []) ≡ NoJob
unfolding the_declaration
since-no-file = refl

since-empty-file : import_job (codes "tcam" ∷ codes "import" ∷ codes "nft" ∷ codes "--since" ∷ [] ∷ []) ≡ NoJob
unfolding the_declaration
since-empty-file = refl
