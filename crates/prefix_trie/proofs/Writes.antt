-- What stands where after a child got another parent and two places were written.
use Rattle.std.proofs.Common.{◌≡◌, ◌≢◌, ℕ, ◌<◌, ◌⊎◌, Bool, true, false, List, Option, Some, None, length, inl, inr, refl, arith, sym, ◌∙◌, ap}
use Rattle.std.specs.Prelude.{slice_set}
use Rattle.std.proofs.lemmas.Bool.{cases_eq}
use Rattle.std.proofs.lemmas.List.{get_or-set_same, length-set}
use Rattle.prefix_trie.specs.declared.node.Node.{Node}
use Rattle.prefix_trie.specs.Nodes.{node_at, child_of, turned, with_parent, under, adopted}
use Rattle.prefix_trie.proofs.Likes.{set_other, within}

pub child-turned : (node : Node) (bit : Bool) (child : Option ℕ) → child_of (turned node bit child) bit ≡ child
child-turned node false child = refl
child-turned node true child = refl

pub child-kept : (node : Node) (bit side : Bool) (child : Option ℕ) → (side ≡ bit → ⊥) → child_of (turned node bit child) side ≡ child_of node side
child-kept node false false child off = absurd (off refl)
child-kept node false true child off = refl
child-kept node true false child off = refl
child-kept node true true child off = absurd (off refl)

pub turned-prefix : (node : Node) (bit : Bool) (child : Option ℕ) → (turned node bit child).prefix ≡ node.prefix
turned-prefix node false child = refl
turned-prefix node true child = refl

pub turned-parent : (node : Node) (bit : Bool) (child : Option ℕ) → (turned node bit child).parent ≡ node.parent
turned-parent node false child = refl
turned-parent node true child = refl

pub turned-id : (node : Node) (bit : Bool) (child : Option ℕ) → (turned node bit child).id ≡ node.id
turned-id node false child = refl
turned-id node true child = refl

pub turned-slot : (node : Node) (bit : Bool) (child : Option ℕ) → (turned node bit child).slot ≡ node.slot
turned-slot node false child = refl
turned-slot node true child = refl

pub turned-top : (node : Node) (bit : Bool) (child : Option ℕ) → (turned node bit child).top ≡ node.top
turned-top node false child = refl
turned-top node true child = refl

pub turned-back : (node : Node) (bit : Bool) (child : Option ℕ) → turned (turned node bit child) bit (child_of node bit) ≡ node
turned-back node false child = refl
turned-back node true child = refl

pub child-under : (node : Node) (parent : Option ℕ) (side : Bool) → child_of (with_parent node parent) side ≡ child_of node side
child-under node parent false = refl
child-under node parent true = refl

pub length-adopted : (nodes : List (Option Node)) (child : Option ℕ) (parent : ℕ) → length (adopted nodes child parent) ≡ length nodes
length-adopted nodes None parent = refl
length-adopted nodes (Some child) parent = length-set nodes child (under (node_at nodes child) parent)

-- whether a place is that of a child
pub is_cases : (child : Option ℕ) (place : ℕ) → (child ≡ Some place) ⊎ (child ≡ Some place → ⊥)
is_cases None place = inr (λ same. cc)
is_cases (Some child) place = elim (cases_eq child place) [
  | inl same ↦ inl (ap (λ (n : ℕ). Some n) same)
  | inr ne ↦ inr (λ some. let same : child ≡ place = cc in ne same)
]

abbrev pub written : List (Option Node) → Option ℕ → ℕ → ℕ → Option Node → ℕ → Option Node → List (Option Node)
written old child parent a x b y = slice_set (slice_set (adopted old child parent) a x) b y

module _ (old : List (Option Node)) (child : Option ℕ) (parent a : ℕ) (x : Option Node) (b : ℕ) (y : Option Node) where
  pub read_last : b < length old → node_at (written old child parent a x b y) b ≡ y
  read_last fits =
      let size = length-adopted old child parent in
      let more = length-set (adopted old child parent) a x in
      get_or-set_same (slice_set (adopted old child parent) a x) b y None (omega arith)

  pub read_first : a < length old → a ≢ b → node_at (written old child parent a x b y) a ≡ x
  read_first fits ne =
      let size = length-adopted old child parent in
      set_other (slice_set (adopted old child parent) a x) b a y ne ∙ get_or-set_same (adopted old child parent) a x None (omega arith)

  pub read_child : (c : ℕ) (node : Node) → child ≡ Some c → node_at old c ≡ Some node → c ≢ a → c ≢ b → node_at (written old child parent a x b y) c ≡ Some (with_parent node (Some parent))
  read_child c node child_is is off_a off_b =
      set_other (slice_set (adopted old child parent) a x) b c y off_b
      ∙ (set_other (adopted old child parent) a c x off_a
      ∙ (ap (λ (o : Option ℕ). node_at (adopted old o parent) c) child_is
      ∙ (get_or-set_same old c (under (node_at old c) parent) None (within old c node is)
      ∙ ap (λ (o : Option Node). under o parent) is)))

  pub read_else : (other : ℕ) → other ≢ a → other ≢ b → (child ≡ Some other → ⊥) → node_at (written old child parent a x b y) other ≡ node_at old other
  read_else other off_a off_b off =
      set_other (slice_set (adopted old child parent) a x) b other y off_b
      ∙ (set_other (adopted old child parent) a other x off_a ∙ by child refl)
    where
      by : (c : Option ℕ) → child ≡ c → node_at (adopted old c parent) other ≡ node_at old other
      by None none = refl
      by (Some c) some = set_other old c other (under (node_at old c) parent) (λ same. off (some ∙ ap (λ (n : ℕ). Some n) (sym same)))
