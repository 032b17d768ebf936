-- What the calls that read a command line answer: words that only their contracts need.
use Rattle.std.specs.Prelude.{◌≤◌}
use Rattle.slot_order.specs.Order.{most_slots}
use Rattle.router_cli.specs.declared.command_line.RouterAsked.{RouterAsked}
use Rattle.router_cli.specs.declared.command_line.RouterAsked.TheVariants as asked
use Rattle.router_cli.specs.CommandLine.{RouterJob, Tells, Routes}
use Rattle.router_cli.specs.OwnTexts.{router_help}

-- what an answer says that words ask for
abbrev pub router_asked_by : RouterAsked → RouterJob
router_asked_by (asked.Script version slots mode placement trace large) = Routes version slots mode placement trace large
router_asked_by asked.Help = Tells router_help

-- the number of slots of an answer is in its range
abbrev pub IsRouterAskedInRange : RouterAsked → Type 0
IsRouterAskedInRange (asked.Script version slots mode placement trace large) = (1 ≤ slots) × (slots ≤ most_slots)
IsRouterAskedInRange asked.Help = Unit {0}
