-- What is asked for in a script of routes.
use Rattle.std.specs.Prelude.{map}
use Rattle.rule_model.specs.declared.IpVersion.{IpVersion}
use Rattle.settled_changes.specs.declared.requested.Requested.{Requested}
use Rattle.settled_changes.specs.declared.requested.Requested.TheVariants.{Nothing, Changes, Whole}
use Rattle.settled_changes.specs.Requested.{strict_form}
use Rattle.batch_order.specs.Managed.{OnlyChangesRoutes}

-- what is asked for changes routes of this version
abbrev pub OnlyAsksRoutes : IpVersion → Requested → Type 0
OnlyAsksRoutes version Nothing = Unit {0}
OnlyAsksRoutes version (Changes requests) = OnlyChangesRoutes version (map strict_form requests)
OnlyAsksRoutes version (Whole requests) = OnlyChangesRoutes version (map strict_form requests)
