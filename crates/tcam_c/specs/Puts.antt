-- The forgiving changes that plain numbers stand for: a rule is to stand, or to go, whether it was there or not. What is wrong with
-- numbers is told as of the strict changes in Codes and Codes6.
use Rattle.std.specs.Prelude.{◌≡◌, ◌≢◌, ℕ, Result, Ok, Err}
use Rattle.rule_model.specs.declared.Rule.{Rule}
use Rattle.rule_model.specs.AddressBlock.{ipv4_block}
use Rattle.rule_model.specs.Rank.{list_rank}
use Rattle.rule_model.specs.Rule.{route_rule}
use Rattle.settled_changes.specs.declared.Request.{Request}
use Rattle.settled_changes.specs.declared.Request.TheVariants.{Put, Drop}
use Rattle.tcam_c.specs.Codes.{IsIpv4Prefix, IsPrefixFault, IsRule, IsRuleFault, list_rule, route_priority}
use Rattle.tcam_c.specs.Codes6.{IsIpv6Prefix, IsPrefix6Fault, IsRule6, IsRule6Fault, ipv6_block, list_rule6, route6_priority}
use Rattle.tcam_c.specs.declared.plain.TcamAddress.{TcamAddress}
use Rattle.tcam_c.specs.declared.plain.TcamRule.{TcamRule}
use Rattle.tcam_c.specs.declared.plain.TcamRule6.{TcamRule6}

-- a route
abbrev pub PutsRoute : ℕ → ℕ → ℕ → Result Request ℕ → Type 0
PutsRoute address len given (Ok request) = IsIpv4Prefix address len × (request ≡ Put (route_rule (route_priority address len) (ipv4_block address len) given))
PutsRoute address len given (Err code) = IsPrefixFault address len code

abbrev pub DropsRoute : ℕ → ℕ → Result Request ℕ → Type 0
DropsRoute address len (Ok request) = IsIpv4Prefix address len × (request ≡ Drop (route_priority address len))
DropsRoute address len (Err code) = IsPrefixFault address len code

-- and of IPv6
abbrev pub PutsRoute6 : TcamAddress → ℕ → ℕ → Result Request ℕ → Type 0
PutsRoute6 address len given (Ok request) = IsIpv6Prefix address len × (request ≡ Put (route_rule (route6_priority address len) (ipv6_block address len) given))
PutsRoute6 address len given (Err code) = IsPrefix6Fault address len code

abbrev pub DropsRoute6 : TcamAddress → ℕ → Result Request ℕ → Type 0
DropsRoute6 address len (Ok request) = IsIpv6Prefix address len × (request ≡ Drop (route6_priority address len))
DropsRoute6 address len (Err code) = IsPrefix6Fault address len code

-- a rule of an access list, which goes by its number in either version
abbrev pub PutsRule : TcamRule → Result Request ℕ → Type 0
PutsRule rule (Ok request) = IsRule rule × (request ≡ Put (list_rule rule))
PutsRule rule (Err code) = IsRuleFault rule code

abbrev pub PutsRule6 : TcamRule6 → Result Request ℕ → Type 0
PutsRule6 rule (Ok request) = IsRule6 rule × (request ≡ Put (list_rule6 rule))
PutsRule6 rule (Err code) = IsRule6Fault rule code

abbrev pub DropsRule : ℕ → Result Request ℕ → Type 0
DropsRule number (Ok request) = (number ≢ 0) × (request ≡ Drop (list_rank number))
DropsRule number (Err code) = (code ≡ 25) × (number ≡ 0)

-- the rule that plain numbers stand for, or the code of what is wrong
abbrev pub IsListRuleOr : TcamRule → Result Rule ℕ → Type 0
IsListRuleOr rule (Ok made) = IsRule rule × (made ≡ list_rule rule)
IsListRuleOr rule (Err code) = IsRuleFault rule code

abbrev pub IsListRule6Or : TcamRule6 → Result Rule ℕ → Type 0
IsListRule6Or rule (Ok made) = IsRule6 rule × (made ≡ list_rule6 rule)
IsListRule6Or rule (Err code) = IsRule6Fault rule code
