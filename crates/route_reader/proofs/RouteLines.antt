-- What a line adds is a route of its version of IP.
use Rattle.std.proofs.Common.{◌≡◌, ℕ, ◌≤◌, ◌-◌, ◌%◌, ◌^◌, ◌==◌, ◌&&◌, nat_le, inl, inr, List, [], ◌∷◌, codes, Option, Some, None, Result, Ok, Err, ok_or, cond, if◌then◌else◌, refl, ap, subst, arith}
use Rattle.std.specs.Str.{bytes_eq}
use Rattle.std.proofs.lemmas.Bool.{cases_Bool, and_parts, leb-true}
use Rattle.rule_model.specs.declared.IpVersion.{IpVersion}
use Rattle.rule_model.specs.declared.IpVersion.TheVariants.{V4, V6}
use Rattle.rule_model.specs.AddressBlock.{AddressBlock, IsIpv4Block, ipv4_block}
use Rattle.line_words.specs.declared.WordFault.{WordFault}
use Rattle.line_words.specs.declared.WordFault.TheVariants.{BadPrefix, UnknownCommand}
use Rattle.line_words.specs.Words.{◌>>=◌, words_of, is_skipped}
use Rattle.line_words.specs.Kinds.{ipv4_notation, result_of, ipv4_number, ipv4_prefix, number_up_to, is_number, number_value, block_of, parts_at}
use Rattle.line_words.specs.Notations.{notation_for}
use Rattle.line_words.specs.Commands.{common_command}
use Rattle.line_words.specs.declared.commands.CommonCommand.{CommonCommand}
use Rattle.route_reader.specs.declared.RouteCommand.{RouteCommand}
use Rattle.route_reader.specs.declared.RouteCommand.TheVariants.{Add, Set, Del, Put, Drop, All, Common}
use Rattle.route_reader.specs.Grammar.{addition, change, forgiving_addition, forgiving_removal, removal, route_words, route_command, route_line, whole_set}
use Rattle.route_reader.specs.Routes.{IsCommandOf}

-- ---- the command of a line that has one

kept : {C : Type 0} (read : Result C WordFault) (command : C) → (read >>= λ found. Ok (Some found)) ≡ Ok (Some command) → read ≡ Ok command
kept {C = C} (Ok found) command e =
    let some : Some found ≡ Some command = cc in
    let same : found ≡ command = cc in ap Ok same
kept (Err fault) command e = let bad = e in absurd (cc)

pub line-command : {C : Type 0} (words : List (List ℕ)) (read : Result C WordFault) (command : C)
    → cond (is_skipped words) (Ok None) (read >>= λ found. Ok (Some found)) ≡ Ok (Some command) → read ≡ Ok command
line-command words read command is = elim (cases_Bool (is_skipped words)) [
  | inl same ↦
      let bad : Ok None ≡ Ok (Some command) = rw same at is in
      absurd (cc)
  | inr other ↦ kept read command (rw other at is)
]

-- ---- a prefix

pub within : (word : List ℕ) (bound value : ℕ) → number_up_to bound word ≡ Some value → value ≤ bound
within word bound value is = elim (cases_Bool (is_number word && nat_le (number_value word) bound)) [
  | inl fits ↦
      let some = rw fits at is in
      subst (λ n. n ≤ bound) (cc) (leb-true (number_value word) bound (and_parts _ _ fits).1)
  | inr over ↦ let none = rw over at is in absurd (cc)
]

block-ipv4 : (number bits : ℕ) (found : AddressBlock) → bits ≤ 32 → block_of (ipv4_block number bits) ≡ Ok found → IsIpv4Block found
block-ipv4 number bits found few is =
    let block : AddressBlock = ipv4_block number bits in
    elim (cases_Bool (block.addr % 2 ^ (128 - bits) == 0)) [
      | inl clear ↦
          let some = rw clear at is in
          let same : block ≡ found = cc in
          subst IsIpv4Block same (record { length = few; upper = omega arith })
      | inr host ↦ let none = rw host at is in absurd (cc)
    ]

parts-ipv4 : (number bits : Option ℕ) (found : AddressBlock) → ((value : ℕ) → bits ≡ Some value → value ≤ 32)
    → (ok_or number BadPrefix >>= λ address. ok_or bits BadPrefix >>= λ len. block_of (ipv4_block address len)) ≡ Ok found → IsIpv4Block found
parts-ipv4 (Some address) (Some len) found few is = block-ipv4 address len found (few len refl) is
parts-ipv4 (Some address) None found few is = absurd (cc)
parts-ipv4 None bits found few is = absurd (cc)

prefix-ipv4 : (parts : List (List ℕ)) (block : AddressBlock) → ipv4_prefix parts ≡ Ok block → IsIpv4Block block
prefix-ipv4 [] block is = absurd (cc)
prefix-ipv4 (address ∷ []) block is = absurd (cc)
prefix-ipv4 (address ∷ len ∷ []) block is = parts-ipv4 (ipv4_number address) (number_up_to 32 len) block (λ value some. within len 32 value some) is
prefix-ipv4 (address ∷ len ∷ more ∷ parts) block is = absurd (cc)

-- ---- the commands

add-ipv4 : (block : Result AddressBlock WordFault) (answer : Result ℕ WordFault) (command : RouteCommand) → ((prefix : AddressBlock) → block ≡ Ok prefix → IsIpv4Block prefix)
    → (block >>= λ prefix. answer >>= λ number. Ok (Add prefix number)) ≡ Ok command → IsCommandOf V4 command
add-ipv4 (Ok prefix) (Ok number) command right is = let same : Add prefix number ≡ command = cc in subst (IsCommandOf V4) same (right prefix refl)
add-ipv4 (Ok prefix) (Err fault) command right is = absurd (cc)
add-ipv4 (Err fault) answer command right is = absurd (cc)

addition-ipv4 : (words : List (List ℕ)) (command : RouteCommand) → addition ipv4_notation words ≡ Ok command → IsCommandOf V4 command
addition-ipv4 [] command is = absurd (cc)
addition-ipv4 (prefix ∷ []) command is = absurd (cc)
addition-ipv4 (prefix ∷ answer ∷ []) command is = add-ipv4 (ipv4_notation.block prefix) (result_of answer) command (prefix-ipv4 (parts_at 47 prefix)) is
addition-ipv4 (prefix ∷ answer ∷ more ∷ words) command is = absurd (cc)

set-ipv4 : (block : Result AddressBlock WordFault) (answer : Result ℕ WordFault) (command : RouteCommand)
    → (block >>= λ prefix. answer >>= λ number. Ok (Set prefix number)) ≡ Ok command → IsCommandOf V4 command
set-ipv4 (Ok prefix) (Ok number) command is = let same : Set prefix number ≡ command = cc in subst (IsCommandOf V4) same tt
set-ipv4 (Ok prefix) (Err fault) command is = absurd (cc)
set-ipv4 (Err fault) answer command is = absurd (cc)

change-ipv4 : (words : List (List ℕ)) (command : RouteCommand) → change ipv4_notation words ≡ Ok command → IsCommandOf V4 command
change-ipv4 [] command is = absurd (cc)
change-ipv4 (prefix ∷ []) command is = absurd (cc)
change-ipv4 (prefix ∷ answer ∷ []) command is = set-ipv4 (ipv4_notation.block prefix) (result_of answer) command is
change-ipv4 (prefix ∷ answer ∷ more ∷ words) command is = absurd (cc)

del-ipv4 : (block : Result AddressBlock WordFault) (command : RouteCommand) → (block >>= λ prefix. Ok (Del prefix)) ≡ Ok command → IsCommandOf V4 command
del-ipv4 (Ok prefix) command is = let same : Del prefix ≡ command = cc in subst (IsCommandOf V4) same tt
del-ipv4 (Err fault) command is = absurd (cc)

removal-ipv4 : (words : List (List ℕ)) (command : RouteCommand) → removal ipv4_notation words ≡ Ok command → IsCommandOf V4 command
removal-ipv4 [] command is = absurd (cc)
removal-ipv4 (prefix ∷ []) command is = del-ipv4 (ipv4_notation.block prefix) command is
removal-ipv4 (prefix ∷ more ∷ words) command is = absurd (cc)

put-ipv4 : (block : Result AddressBlock WordFault) (answer : Result ℕ WordFault) (command : RouteCommand) → ((prefix : AddressBlock) → block ≡ Ok prefix → IsIpv4Block prefix)
    → (block >>= λ prefix. answer >>= λ number. Ok (Put prefix number)) ≡ Ok command → IsCommandOf V4 command
put-ipv4 (Ok prefix) (Ok number) command right is = let same : Put prefix number ≡ command = cc in subst (IsCommandOf V4) same (right prefix refl)
put-ipv4 (Ok prefix) (Err fault) command right is = absurd (cc)
put-ipv4 (Err fault) answer command right is = absurd (cc)

standing-ipv4 : (words : List (List ℕ)) (command : RouteCommand) → forgiving_addition ipv4_notation words ≡ Ok command → IsCommandOf V4 command
standing-ipv4 [] command is = absurd (cc)
standing-ipv4 (prefix ∷ []) command is = absurd (cc)
standing-ipv4 (prefix ∷ answer ∷ []) command is = put-ipv4 (ipv4_notation.block prefix) (result_of answer) command (prefix-ipv4 (parts_at 47 prefix)) is
standing-ipv4 (prefix ∷ answer ∷ more ∷ words) command is = absurd (cc)

drop-ipv4 : (block : Result AddressBlock WordFault) (command : RouteCommand) → (block >>= λ prefix. Ok (Drop prefix)) ≡ Ok command → IsCommandOf V4 command
drop-ipv4 (Ok prefix) command is = let same : Drop prefix ≡ command = cc in subst (IsCommandOf V4) same tt
drop-ipv4 (Err fault) command is = absurd (cc)

gone-ipv4 : (words : List (List ℕ)) (command : RouteCommand) → forgiving_removal ipv4_notation words ≡ Ok command → IsCommandOf V4 command
gone-ipv4 [] command is = absurd (cc)
gone-ipv4 (prefix ∷ []) command is = drop-ipv4 (ipv4_notation.block prefix) command is
gone-ipv4 (prefix ∷ more ∷ words) command is = absurd (cc)

whole-ipv4 : (words : List (List ℕ)) (command : RouteCommand) → whole_set words ≡ Ok command → IsCommandOf V4 command
whole-ipv4 [] command is = let same : All ≡ command = cc in subst (IsCommandOf V4) same tt
whole-ipv4 (word ∷ words) command is = absurd (cc)

-- a verb that doesn't ask what is there
forgiving-ipv4 : (verb : List ℕ) (rest : List (List ℕ)) (command : RouteCommand)
    → (if bytes_eq verb (codes "put") then forgiving_addition ipv4_notation rest
    else if bytes_eq verb (codes "drop") then forgiving_removal ipv4_notation rest
    else if bytes_eq verb (codes "all") then whole_set rest
    else Err UnknownCommand) ≡ Ok command → IsCommandOf V4 command
forgiving-ipv4 verb rest command is = elim (cases_Bool (bytes_eq verb (codes "put"))) [
  | inl puts ↦ standing-ipv4 rest command (rw puts at is)
  | inr other ↦ elim (cases_Bool (bytes_eq verb (codes "drop"))) [
    | inl drops ↦ gone-ipv4 rest command (rw (other, drops) at is)
    | inr also ↦ elim (cases_Bool (bytes_eq verb (codes "all"))) [
      | inl alls ↦ whole-ipv4 rest command (rw (other, also, alls) at is)
      | inr neither ↦ let bad = rw (other, also, neither) at is in absurd (cc)
    ]
  ]
]

route-ipv4 : (words : List (List ℕ)) (command : RouteCommand) → route_words ipv4_notation words ≡ Ok command → IsCommandOf V4 command
route-ipv4 [] command is = absurd (cc)
route-ipv4 (verb ∷ rest) command is = elim (cases_Bool (bytes_eq verb (codes "add"))) [
  | inl adds ↦ addition-ipv4 rest command (rw adds at is)
  | inr other ↦ elim (cases_Bool (bytes_eq verb (codes "set"))) [
    | inl sets ↦ change-ipv4 rest command (rw (other, sets) at is)
    | inr also ↦ elim (cases_Bool (bytes_eq verb (codes "del"))) [
      | inl dels ↦ removal-ipv4 rest command (rw (other, also, dels) at is)
      | inr neither ↦ forgiving-ipv4 verb rest command (rw (other, also, neither) at is)
    ]
  ]
]

common-ipv4 : (common : Result CommonCommand WordFault) (command : RouteCommand) → (common >>= λ found. Ok (Common found)) ≡ Ok command → IsCommandOf V4 command
common-ipv4 (Ok found) command is = let same : Common found ≡ command = cc in subst (IsCommandOf V4) same tt
common-ipv4 (Err fault) command is = absurd (cc)

command-ipv4 : (words : List (List ℕ)) (command : RouteCommand) → route_command ipv4_notation words ≡ Ok command → IsCommandOf V4 command
command-ipv4 [] command is = absurd (cc)
command-ipv4 (first ∷ rest) command is = elim (cases_Bool (bytes_eq first (codes "route"))) [
  | inl route ↦ route-ipv4 rest command (rw route at is)
  | inr other ↦ common-ipv4 (common_command ipv4_notation first rest) command (rw other at is)
]

line-ipv4 : (text : List ℕ) (command : RouteCommand) → route_line ipv4_notation text ≡ Ok (Some command) → IsCommandOf V4 command
line-ipv4 text command is = command-ipv4 (words_of text) command (line-command (words_of text) (route_command ipv4_notation (words_of text)) command is)

-- ---- either version

command-ipv6 : (command : RouteCommand) → IsCommandOf V6 command
command-ipv6 (Add prefix answer) = tt
command-ipv6 (Set prefix answer) = tt
command-ipv6 (Del prefix) = tt
command-ipv6 (Put prefix answer) = tt
command-ipv6 (Drop prefix) = tt
command-ipv6 All = tt
command-ipv6 (Common found) = tt

pub line-of : (version : IpVersion) (text : List ℕ) (command : RouteCommand) → route_line (notation_for version) text ≡ Ok (Some command) → IsCommandOf version command
line-of V4 text command is = line-ipv4 text command is
line-of V6 text command is = command-ipv6 command
