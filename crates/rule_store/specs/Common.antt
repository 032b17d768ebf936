-- What a replaced rule and the rule in its place have in common.
use Rattle.std.specs.Prelude.{ℕ, ◌*◌, Bool, ◌&&◌, if◌then◌else◌, List, count_by}
use Rattle.std.specs.List.{list_any}
use Rattle.rule_model.specs.declared.Rule.{Rule}
use Rattle.rule_model.specs.AddressBlock.{same_block}
use Rattle.rule_model.specs.PortRange.{PortRange, same_range, cover}
use Rattle.rule_model.specs.Piece.{same_proto}

-- how many blocks of the first list stand in the second one
abbrev pub common_blocks : List PortRange → List PortRange → ℕ
common_blocks blocks others = count_by (λ block. list_any (same_range block) others) blocks

-- how many blocks of the first range's cover are blocks of the second one's
abbrev pub common_size : PortRange → PortRange → ℕ
common_size a b = common_blocks (cover a) (cover b)

-- the same addresses and protocol
abbrev pub same_ends : Rule → Rule → Bool
same_ends a b = same_block a.src b.src && same_block a.dst b.dst && same_proto a.proto b.proto

-- how many pieces by covers a rule has in common with the one that it replaces
abbrev pub kept_size : Rule → Rule → ℕ
kept_size old new =
    if same_ends new old then common_size new.sport old.sport * common_size new.dport old.dport else 0
