-- Cubes of search words: the words that agree with a value wherever a mask is set.
use Rattle.std.specs.Prelude.{◌≡◌, ℕ, ◌<◌, true, false, Bool, IsTrue, length, slice_index, bit_and, bit_xor}
use Rattle.rule_model.specs.declared.words.Word.{Word}
use Rattle.rule_model.specs.declared.words.Entry.{Entry}
use Rattle.rule_model.specs.Entry.{lanes_match, hits}
use Rattle.word_cubes.specs.declared.Cube.{Cube}

-- the cube holds the word
abbrev pub cube_holds : Cube → Word → Bool
cube_holds cube word = lanes_match word.lane cube.value.lane cube.mask.lane

-- a word has eleven lanes
abbrev pub IsWord : Word → Type 0
IsWord word = length word.lane ≡ 11

-- the bits in which two values differ where both of their masks are set
abbrev pub clash : ℕ → ℕ → ℕ → ℕ → ℕ
clash value mask other over = bit_and (bit_and (bit_xor value other) mask) over

-- in no lane an entry and a cube clash, and the cube has each lane
abbrev pub AreNear : Entry → Cube → Type 0
AreNear entry cube =
    (lane : ℕ) → lane < 11 → (lane < length cube.value.lane) × (lane < length cube.mask.lane)
    × (clash (slice_index entry.value.lane lane) (slice_index entry.mask.lane lane) (slice_index cube.value.lane lane) (slice_index cube.mask.lane lane) ≡ 0)

-- each bit of a mask is one of another one
abbrev pub IsCovered : ℕ → ℕ → Type 0
IsCovered mask over = bit_xor mask (bit_and mask over) ≡ 0

-- the entry hits no word of the cube,
abbrev pub MissesCube : Entry → Cube → Type 0
MissesCube entry cube = (word : Word) → IsWord word → IsTrue (cube_holds cube word) → hits entry word ≡ false

-- or each
abbrev pub HitsCube : Entry → Cube → Type 0
HitsCube entry cube = (word : Word) → IsWord word → IsTrue (cube_holds cube word) → hits entry word ≡ true

-- a lane of a word agrees with a value wherever a mask is set
abbrev pub LaneAgrees : Word → ℕ → ℕ → ℕ → Type 0
LaneAgrees word lane value mask = bit_and (bit_xor (slice_index word.lane lane) value) mask ≡ 0
