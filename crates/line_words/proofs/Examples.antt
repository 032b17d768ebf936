-- Words of each kind, by computation.
use Rattle.std.proofs.Common.{◌≡◌, Ok, Err, Some, None, refl}
use Rattle.std.specs.Prelude.{codes}
use Rattle.line_words.specs.declared.WordFault.TheVariants.{BadAction, BadPrefix, HostBits}
use Rattle.line_words.specs.Kinds.{action_of, ipv4_number, ipv4_notation}

address : ipv4_number (codes "10.1.2.3") ≡ Some 0x0a010203
address = refl

three-parts : ipv4_number (codes "10.1.2") ≡ None
three-parts = refl

leading-zero : ipv4_number (codes "010.1.2.3") ≡ None
leading-zero = refl

block : ipv4_notation.block (codes "10.0.0.0/8") ≡ Ok (record { addr = 0x0a000000000000000000000000000000; len = 8 })
block = refl

host-bits : ipv4_notation.block (codes "10.0.0.1/8") ≡ Err HostBits
host-bits = refl

too-long : ipv4_notation.block (codes "10.0.0.0/33") ≡ Err BadPrefix
too-long = refl

named : action_of (codes "permit") ≡ Ok 1
named = refl

numbered : action_of (codes "=7") ≡ Ok 7
numbered = refl

largest : action_of (codes "=4294967295") ≡ Ok 4294967295
largest = refl

too-large : action_of (codes "=4294967296") ≡ Err BadAction
too-large = refl

no-number : action_of (codes "=") ≡ Err BadAction
no-number = refl

number-alone : action_of (codes "7") ≡ Err BadAction
number-alone = refl
