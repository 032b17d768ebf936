-- What a line adds, changes or removes has its numbers within the limits of a trace of its version of IP.
use Rattle.std.proofs.Common.{◌≡◌, ℕ, ◌-◌, ◌^◌, ◌<◌, ◌≤◌, inl, inr, List, [], ◌∷◌, codes, Option, Some, IfSome, Result, Ok, Err, if◌then◌else◌, refl, subst, arith}
use Rattle.std.specs.Str.{bytes_eq}
use Rattle.std.proofs.lemmas.Bool.{cases_Bool}
use Rattle.rule_model.specs.declared.IpVersion.{IpVersion}
use Rattle.rule_model.specs.declared.Rule.{Rule}
use Rattle.rule_model.specs.AddressBlock.{AddressBlock}
use Rattle.rule_model.specs.PortRange.{PortRange, IsPortRange, any_port}
use Rattle.rule_model.specs.Rank.{list_rank}
use Rattle.rule_model.specs.Rule.{route_rule}
use Rattle.line_words.specs.declared.WordFault.{WordFault}
use Rattle.line_words.specs.declared.WordFault.TheVariants.{UnknownCommand}
use Rattle.line_words.specs.declared.commands.CommonCommand.{CommonCommand}
use Rattle.line_words.specs.Words.{◌>>=◌, words_of}
use Rattle.line_words.specs.Kinds.{side_of, result_of, sequence_of, action_of, proto_choice, ports_of}
use Rattle.line_words.specs.Notations.{notation_for}
use Rattle.line_words.specs.Commands.{common_command}
use Rattle.route_reader.specs.declared.RouteCommand.{RouteCommand}
use Rattle.route_reader.specs.declared.RouteCommand.TheVariants as route
use Rattle.route_reader.specs.Grammar as routes
use Rattle.acl_reader.specs.declared.AclCommand.{AclCommand}
use Rattle.acl_reader.specs.declared.AclCommand.TheVariants as acl
use Rattle.acl_reader.specs.Grammar as lists
use Rattle.trace_file.specs.Forms.{IsTraceRank, IsTraceRule}
use Rattle.route_reader.specs.Routes.{route_rank}
use Rattle.route_reader.proofs.RouteLines.{line-command}
use Rattle.tcam_cli.proofs.TracedWords.{IsPrefixOf, action-fits, any-of, block-of, list-rank-fits, ports-right, proto-right, result-fits, route-rank-fits, rule-fits, sequence-some, side-right}

-- ---- commands of an access list

-- the numbers of a command are within their limits
abbrev pub IsListWithin : IpVersion → AclCommand → Type 0
IsListWithin version (acl.Add rule) = IsTraceRule version rule
IsListWithin version (acl.Set sequence answer) = IsTraceRank version (list_rank sequence) × (answer < 2 ^ 32)
IsListWithin version (acl.Del sequence) = IsTraceRank version (list_rank sequence)
IsListWithin version (acl.Put rule) = IsTraceRule version rule
IsListWithin version (acl.Drop sequence) = IsTraceRank version (list_rank sequence)
IsListWithin version acl.All = Unit {0}
IsListWithin version (acl.Common command) = Unit {0}

abbrev rule_of : ℕ → ℕ → AddressBlock → AddressBlock → Option ℕ → PortRange → PortRange → Rule
rule_of number answer from to protocol source destination = record {
  priority = list_rank number;
  src = from;
  dst = to;
  proto = protocol;
  sport = source;
  dport = destination;
  result = answer;
}

list-added : (version : IpVersion) (number answer : Result ℕ WordFault) (from to : Result AddressBlock WordFault) (protocol : Result (Option ℕ) WordFault) (source destination : Result PortRange WordFault) (rule : Rule)
    → ((n : ℕ) → number ≡ Ok n → 1 ≤ n) → ((n : ℕ) → answer ≡ Ok n → n < 2 ^ 32) → ((b : AddressBlock) → from ≡ Ok b → IsPrefixOf version b) → ((b : AddressBlock) → to ≡ Ok b → IsPrefixOf version b)
    → ((p : Option ℕ) → protocol ≡ Ok p → IfSome p (λ number. number < 2 ^ 8)) → ((r : PortRange) → source ≡ Ok r → IsPortRange r) → ((r : PortRange) → destination ≡ Ok r → IsPortRange r)
    → (number >>= λ n. answer >>= λ a. from >>= λ f. to >>= λ t. protocol >>= λ p. source >>= λ s. destination >>= λ d. Ok (rule_of n a f t p s d)) ≡ Ok rule → IsTraceRule version rule
list-added version (Ok n) (Ok a) (Ok f) (Ok t) (Ok p) (Ok s) (Ok d) rule some_n fits_a right_f right_t right_p right_s right_d is =
    let same : rule_of n a f t p s d ≡ rule = cc in
    subst (IsTraceRule version) same
    (rule-fits version (rule_of n a f t p s d) (list-rank-fits version n (some_n n refl)) (right_f f refl) (right_t t refl) (right_p p refl) (right_s s refl) (right_d d refl) (fits_a a refl))
list-added version (Ok n) (Ok a) (Ok f) (Ok t) (Ok p) (Ok s) (Err e) rule some_n fits_a right_f right_t right_p right_s right_d is = absurd (cc)
list-added version (Ok n) (Ok a) (Ok f) (Ok t) (Ok p) (Err e) destination rule some_n fits_a right_f right_t right_p right_s right_d is = absurd (cc)
list-added version (Ok n) (Ok a) (Ok f) (Ok t) (Err e) source destination rule some_n fits_a right_f right_t right_p right_s right_d is = absurd (cc)
list-added version (Ok n) (Ok a) (Ok f) (Err e) protocol source destination rule some_n fits_a right_f right_t right_p right_s right_d is = absurd (cc)
list-added version (Ok n) (Ok a) (Err e) to protocol source destination rule some_n fits_a right_f right_t right_p right_s right_d is = absurd (cc)
list-added version (Ok n) (Err e) from to protocol source destination rule some_n fits_a right_f right_t right_p right_s right_d is = absurd (cc)
list-added version (Err e) answer from to protocol source destination rule some_n fits_a right_f right_t right_p right_s right_d is = absurd (cc)

list-rule : (version : IpVersion) (words : List (List ℕ)) (rule : Rule) → lists.listed_rule (notation_for version) words ≡ Ok rule → IsTraceRule version rule
list-rule version [] rule is = absurd (cc)
list-rule version (a ∷ []) rule is = absurd (cc)
list-rule version (a ∷ b ∷ []) rule is = absurd (cc)
list-rule version (a ∷ b ∷ c ∷ []) rule is = absurd (cc)
list-rule version (a ∷ b ∷ c ∷ d ∷ []) rule is = absurd (cc)
list-rule version (a ∷ b ∷ c ∷ d ∷ e ∷ []) rule is = absurd (cc)
list-rule version (a ∷ b ∷ c ∷ d ∷ e ∷ f ∷ []) rule is = absurd (cc)
list-rule version (a ∷ b ∷ c ∷ d ∷ e ∷ f ∷ g ∷ []) rule is =
    list-added version (sequence_of a) (action_of b) (side_of (notation_for version) c) (side_of (notation_for version) d) (proto_choice e) (ports_of f) (ports_of g) rule
    (sequence-some a) (action-fits b) (side-right version c) (side-right version d) (proto-right e) (ports-right f) (ports-right g) is
list-rule version (a ∷ b ∷ c ∷ d ∷ e ∷ f ∷ g ∷ h ∷ rest) rule is = absurd (cc)

list-addition : (version : IpVersion) (read : Result Rule WordFault) (command : AclCommand) → ((rule : Rule) → read ≡ Ok rule → IsTraceRule version rule)
    → (read >>= λ rule. Ok (acl.Add rule)) ≡ Ok command → IsListWithin version command
list-addition version (Ok rule) command right is = let same : acl.Add rule ≡ command = cc in subst (IsListWithin version) same (right rule refl)
list-addition version (Err e) command right is = absurd (cc)

list-put : (version : IpVersion) (read : Result Rule WordFault) (command : AclCommand) → ((rule : Rule) → read ≡ Ok rule → IsTraceRule version rule)
    → (read >>= λ rule. Ok (acl.Put rule)) ≡ Ok command → IsListWithin version command
list-put version (Ok rule) command right is = let same : acl.Put rule ≡ command = cc in subst (IsListWithin version) same (right rule refl)
list-put version (Err e) command right is = absurd (cc)

list-dropped : (version : IpVersion) (number : Result ℕ WordFault) (command : AclCommand) → ((n : ℕ) → number ≡ Ok n → 1 ≤ n) → (number >>= λ n. Ok (acl.Drop n)) ≡ Ok command → IsListWithin version command
list-dropped version (Ok n) command some is =
    let same : acl.Drop n ≡ command = cc in
    subst (IsListWithin version) same (list-rank-fits version n (some n refl))
list-dropped version (Err e) command some is = absurd (cc)

list-drop : (version : IpVersion) (words : List (List ℕ)) (command : AclCommand) → lists.forgiving_removal words ≡ Ok command → IsListWithin version command
list-drop version [] command is = absurd (cc)
list-drop version (sequence ∷ []) command is = list-dropped version (sequence_of sequence) command (sequence-some sequence) is
list-drop version (sequence ∷ more ∷ words) command is = absurd (cc)

list-all : (version : IpVersion) (words : List (List ℕ)) (command : AclCommand) → lists.whole_set words ≡ Ok command → IsListWithin version command
list-all version [] command is = let same : acl.All ≡ command = cc in subst (IsListWithin version) same tt
list-all version (word ∷ words) command is = absurd (cc)

-- a verb that doesn't ask what is there
list-forgiving : (version : IpVersion) (verb : List ℕ) (rest : List (List ℕ)) (command : AclCommand)
    → (if bytes_eq verb (codes "put") then lists.forgiving_addition (notation_for version) rest
    else if bytes_eq verb (codes "drop") then lists.forgiving_removal rest
    else if bytes_eq verb (codes "all") then lists.whole_set rest
    else Err UnknownCommand) ≡ Ok command → IsListWithin version command
list-forgiving version verb rest command is = elim (cases_Bool (bytes_eq verb (codes "put"))) [
  | inl puts ↦ list-put version (lists.listed_rule (notation_for version) rest) command (list-rule version rest) (rw puts at is)
  | inr other ↦ elim (cases_Bool (bytes_eq verb (codes "drop"))) [
    | inl drops ↦ list-drop version rest command (rw (other, drops) at is)
    | inr also ↦ elim (cases_Bool (bytes_eq verb (codes "all"))) [
      | inl alls ↦ list-all version rest command (rw (other, also, alls) at is)
      | inr neither ↦ let bad = rw (other, also, neither) at is in absurd (cc)
    ]
  ]
]

list-set : (version : IpVersion) (number answer : Result ℕ WordFault) (command : AclCommand) → ((n : ℕ) → number ≡ Ok n → 1 ≤ n) → ((n : ℕ) → answer ≡ Ok n → n < 2 ^ 32)
    → (number >>= λ n. answer >>= λ a. Ok (acl.Set n a)) ≡ Ok command → IsListWithin version command
list-set version (Ok n) (Ok a) command some fits is =
    let same : acl.Set n a ≡ command = cc in
    subst (IsListWithin version) same (list-rank-fits version n (some n refl), fits a refl)
list-set version (Ok n) (Err e) command some fits is = absurd (cc)
list-set version (Err e) answer command some fits is = absurd (cc)

list-change : (version : IpVersion) (words : List (List ℕ)) (command : AclCommand) → lists.change words ≡ Ok command → IsListWithin version command
list-change version [] command is = absurd (cc)
list-change version (sequence ∷ []) command is = absurd (cc)
list-change version (sequence ∷ action ∷ []) command is = list-set version (sequence_of sequence) (action_of action) command (sequence-some sequence) (action-fits action) is
list-change version (sequence ∷ action ∷ more ∷ words) command is = absurd (cc)

list-deleted : (version : IpVersion) (number : Result ℕ WordFault) (command : AclCommand) → ((n : ℕ) → number ≡ Ok n → 1 ≤ n) → (number >>= λ n. Ok (acl.Del n)) ≡ Ok command → IsListWithin version command
list-deleted version (Ok n) command some is =
    let same : acl.Del n ≡ command = cc in
    subst (IsListWithin version) same (list-rank-fits version n (some n refl))
list-deleted version (Err e) command some is = absurd (cc)

list-removal : (version : IpVersion) (words : List (List ℕ)) (command : AclCommand) → lists.removal words ≡ Ok command → IsListWithin version command
list-removal version [] command is = absurd (cc)
list-removal version (sequence ∷ []) command is = list-deleted version (sequence_of sequence) command (sequence-some sequence) is
list-removal version (sequence ∷ more ∷ words) command is = absurd (cc)

list-words : (version : IpVersion) (words : List (List ℕ)) (command : AclCommand) → lists.acl_words (notation_for version) words ≡ Ok command → IsListWithin version command
list-words version [] command is = absurd (cc)
list-words version (verb ∷ rest) command is = elim (cases_Bool (bytes_eq verb (codes "add"))) [
  | inl adds ↦ list-addition version (lists.listed_rule (notation_for version) rest) command (list-rule version rest) (rw adds at is)
  | inr other ↦ elim (cases_Bool (bytes_eq verb (codes "set"))) [
    | inl sets ↦ list-change version rest command (rw (other, sets) at is)
    | inr also ↦ elim (cases_Bool (bytes_eq verb (codes "del"))) [
      | inl dels ↦ list-removal version rest command (rw (other, also, dels) at is)
      | inr neither ↦ list-forgiving version verb rest command (rw (other, also, neither) at is)
    ]
  ]
]

list-common : (version : IpVersion) (read : Result CommonCommand WordFault) (command : AclCommand) → (read >>= λ found. Ok (acl.Common found)) ≡ Ok command → IsListWithin version command
list-common version (Ok found) command is = let same : acl.Common found ≡ command = cc in subst (IsListWithin version) same tt
list-common version (Err e) command is = absurd (cc)

list-command : (version : IpVersion) (words : List (List ℕ)) (command : AclCommand) → lists.acl_command (notation_for version) words ≡ Ok command → IsListWithin version command
list-command version [] command is = absurd (cc)
list-command version (first ∷ rest) command is = elim (cases_Bool (bytes_eq first (codes "acl"))) [
  | inl list ↦ list-words version rest command (rw list at is)
  | inr other ↦ list-common version (common_command (notation_for version) first rest) command (rw other at is)
]

pub list-line : (version : IpVersion) (text : List ℕ) (command : AclCommand) → lists.acl_line (notation_for version) text ≡ Ok (Some command) → IsListWithin version command
list-line version text command is = list-command version (words_of text) command (line-command (words_of text) (lists.acl_command (notation_for version) (words_of text)) command is)

-- ---- commands of routes

abbrev pub IsRouteWithin : IpVersion → RouteCommand → Type 0
IsRouteWithin version (route.Add block answer) = IsTraceRule version (route_rule (route_rank version block) block answer)
IsRouteWithin version (route.Set block answer) = IsTraceRank version (route_rank version block) × (answer < 2 ^ 32)
IsRouteWithin version (route.Del block) = IsTraceRank version (route_rank version block)
IsRouteWithin version (route.Put block answer) = IsTraceRule version (route_rule (route_rank version block) block answer)
IsRouteWithin version (route.Drop block) = IsTraceRank version (route_rank version block)
IsRouteWithin version route.All = Unit {0}
IsRouteWithin version (route.Common command) = Unit {0}

route-added : (version : IpVersion) (block : Result AddressBlock WordFault) (answer : Result ℕ WordFault) (command : RouteCommand) → ((b : AddressBlock) → block ≡ Ok b → IsPrefixOf version b) → ((n : ℕ) → answer ≡ Ok n → n < 2 ^ 32)
    → (block >>= λ b. answer >>= λ a. Ok (route.Add b a)) ≡ Ok command → IsRouteWithin version command
route-added version (Ok b) (Ok a) command right fits is =
    let same : route.Add b a ≡ command = cc in
    subst (IsRouteWithin version) same
    (rule-fits version (route_rule (route_rank version b) b a) (route-rank-fits version b (right b refl)) (any-of version) (right b refl) tt any any (fits a refl))
  where
    any : IsPortRange any_port
    any = record { ordered = omega arith; fits = omega arith }
route-added version (Ok b) (Err e) command right fits is = absurd (cc)
route-added version (Err e) answer command right fits is = absurd (cc)

route-addition : (version : IpVersion) (words : List (List ℕ)) (command : RouteCommand) → routes.addition (notation_for version) words ≡ Ok command → IsRouteWithin version command
route-addition version [] command is = absurd (cc)
route-addition version (prefix ∷ []) command is = absurd (cc)
route-addition version (prefix ∷ answer ∷ []) command is = route-added version ((notation_for version).block prefix) (result_of answer) command (block-of version prefix) (result-fits answer) is
route-addition version (prefix ∷ answer ∷ more ∷ words) command is = absurd (cc)

route-set : (version : IpVersion) (block : Result AddressBlock WordFault) (answer : Result ℕ WordFault) (command : RouteCommand) → ((b : AddressBlock) → block ≡ Ok b → IsPrefixOf version b) → ((n : ℕ) → answer ≡ Ok n → n < 2 ^ 32)
    → (block >>= λ b. answer >>= λ a. Ok (route.Set b a)) ≡ Ok command → IsRouteWithin version command
route-set version (Ok b) (Ok a) command right fits is =
    let same : route.Set b a ≡ command = cc in
    subst (IsRouteWithin version) same (route-rank-fits version b (right b refl), fits a refl)
route-set version (Ok b) (Err e) command right fits is = absurd (cc)
route-set version (Err e) answer command right fits is = absurd (cc)

route-change : (version : IpVersion) (words : List (List ℕ)) (command : RouteCommand) → routes.change (notation_for version) words ≡ Ok command → IsRouteWithin version command
route-change version [] command is = absurd (cc)
route-change version (prefix ∷ []) command is = absurd (cc)
route-change version (prefix ∷ answer ∷ []) command is = route-set version ((notation_for version).block prefix) (result_of answer) command (block-of version prefix) (result-fits answer) is
route-change version (prefix ∷ answer ∷ more ∷ words) command is = absurd (cc)

route-deleted : (version : IpVersion) (block : Result AddressBlock WordFault) (command : RouteCommand) → ((b : AddressBlock) → block ≡ Ok b → IsPrefixOf version b) → (block >>= λ b. Ok (route.Del b)) ≡ Ok command → IsRouteWithin version command
route-deleted version (Ok b) command right is =
    let same : route.Del b ≡ command = cc in
    subst (IsRouteWithin version) same (route-rank-fits version b (right b refl))
route-deleted version (Err e) command right is = absurd (cc)

route-removal : (version : IpVersion) (words : List (List ℕ)) (command : RouteCommand) → routes.removal (notation_for version) words ≡ Ok command → IsRouteWithin version command
route-removal version [] command is = absurd (cc)
route-removal version (prefix ∷ []) command is = route-deleted version ((notation_for version).block prefix) command (block-of version prefix) is
route-removal version (prefix ∷ more ∷ words) command is = absurd (cc)

route-put : (version : IpVersion) (block : Result AddressBlock WordFault) (answer : Result ℕ WordFault) (command : RouteCommand) → ((b : AddressBlock) → block ≡ Ok b → IsPrefixOf version b) → ((n : ℕ) → answer ≡ Ok n → n < 2 ^ 32)
    → (block >>= λ b. answer >>= λ a. Ok (route.Put b a)) ≡ Ok command → IsRouteWithin version command
route-put version (Ok b) (Ok a) command right fits is =
    let same : route.Put b a ≡ command = cc in
    subst (IsRouteWithin version) same
    (rule-fits version (route_rule (route_rank version b) b a) (route-rank-fits version b (right b refl)) (any-of version) (right b refl) tt any any (fits a refl))
  where
    any : IsPortRange any_port
    any = record { ordered = omega arith; fits = omega arith }
route-put version (Ok b) (Err e) command right fits is = absurd (cc)
route-put version (Err e) answer command right fits is = absurd (cc)

route-standing : (version : IpVersion) (words : List (List ℕ)) (command : RouteCommand) → routes.forgiving_addition (notation_for version) words ≡ Ok command → IsRouteWithin version command
route-standing version [] command is = absurd (cc)
route-standing version (prefix ∷ []) command is = absurd (cc)
route-standing version (prefix ∷ answer ∷ []) command is = route-put version ((notation_for version).block prefix) (result_of answer) command (block-of version prefix) (result-fits answer) is
route-standing version (prefix ∷ answer ∷ more ∷ words) command is = absurd (cc)

route-dropped : (version : IpVersion) (block : Result AddressBlock WordFault) (command : RouteCommand) → ((b : AddressBlock) → block ≡ Ok b → IsPrefixOf version b) → (block >>= λ b. Ok (route.Drop b)) ≡ Ok command → IsRouteWithin version command
route-dropped version (Ok b) command right is =
    let same : route.Drop b ≡ command = cc in
    subst (IsRouteWithin version) same (route-rank-fits version b (right b refl))
route-dropped version (Err e) command right is = absurd (cc)

route-drop : (version : IpVersion) (words : List (List ℕ)) (command : RouteCommand) → routes.forgiving_removal (notation_for version) words ≡ Ok command → IsRouteWithin version command
route-drop version [] command is = absurd (cc)
route-drop version (prefix ∷ []) command is = route-dropped version ((notation_for version).block prefix) command (block-of version prefix) is
route-drop version (prefix ∷ more ∷ words) command is = absurd (cc)

route-all : (version : IpVersion) (words : List (List ℕ)) (command : RouteCommand) → routes.whole_set words ≡ Ok command → IsRouteWithin version command
route-all version [] command is = let same : route.All ≡ command = cc in subst (IsRouteWithin version) same tt
route-all version (word ∷ words) command is = absurd (cc)

-- a verb that doesn't ask what is there
route-forgiving : (version : IpVersion) (verb : List ℕ) (rest : List (List ℕ)) (command : RouteCommand)
    → (if bytes_eq verb (codes "put") then routes.forgiving_addition (notation_for version) rest
    else if bytes_eq verb (codes "drop") then routes.forgiving_removal (notation_for version) rest
    else if bytes_eq verb (codes "all") then routes.whole_set rest
    else Err UnknownCommand) ≡ Ok command → IsRouteWithin version command
route-forgiving version verb rest command is = elim (cases_Bool (bytes_eq verb (codes "put"))) [
  | inl puts ↦ route-standing version rest command (rw puts at is)
  | inr other ↦ elim (cases_Bool (bytes_eq verb (codes "drop"))) [
    | inl drops ↦ route-drop version rest command (rw (other, drops) at is)
    | inr also ↦ elim (cases_Bool (bytes_eq verb (codes "all"))) [
      | inl alls ↦ route-all version rest command (rw (other, also, alls) at is)
      | inr neither ↦ let bad = rw (other, also, neither) at is in absurd (cc)
    ]
  ]
]

route-words : (version : IpVersion) (words : List (List ℕ)) (command : RouteCommand) → routes.route_words (notation_for version) words ≡ Ok command → IsRouteWithin version command
route-words version [] command is = absurd (cc)
route-words version (verb ∷ rest) command is = elim (cases_Bool (bytes_eq verb (codes "add"))) [
  | inl adds ↦ route-addition version rest command (rw adds at is)
  | inr other ↦ elim (cases_Bool (bytes_eq verb (codes "set"))) [
    | inl sets ↦ route-change version rest command (rw (other, sets) at is)
    | inr also ↦ elim (cases_Bool (bytes_eq verb (codes "del"))) [
      | inl dels ↦ route-removal version rest command (rw (other, also, dels) at is)
      | inr neither ↦ route-forgiving version verb rest command (rw (other, also, neither) at is)
    ]
  ]
]

route-common : (version : IpVersion) (read : Result CommonCommand WordFault) (command : RouteCommand) → (read >>= λ found. Ok (route.Common found)) ≡ Ok command → IsRouteWithin version command
route-common version (Ok found) command is = let same : route.Common found ≡ command = cc in subst (IsRouteWithin version) same tt
route-common version (Err e) command is = absurd (cc)

route-command : (version : IpVersion) (words : List (List ℕ)) (command : RouteCommand) → routes.route_command (notation_for version) words ≡ Ok command → IsRouteWithin version command
route-command version [] command is = absurd (cc)
route-command version (first ∷ rest) command is = elim (cases_Bool (bytes_eq first (codes "route"))) [
  | inl is_route ↦ route-words version rest command (rw is_route at is)
  | inr other ↦ route-common version (common_command (notation_for version) first rest) command (rw other at is)
]

pub route-line : (version : IpVersion) (text : List ℕ) (command : RouteCommand) → routes.route_line (notation_for version) text ≡ Ok (Some command) → IsRouteWithin version command
route-line version text command is = route-command version (words_of text) command (line-command (words_of text) (routes.route_command (notation_for version) (words_of text)) command is)
