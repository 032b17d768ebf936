-- Which node comes behind one, of those that cover a block or lie in it.
use Rattle.std.proofs.Common.{◌≡◌, ◌≢◌, ℕ, ◌<◌, ◌≤◌, ◌⊎◌, Bool, true, false, List, Option, Some, None, inl, inr, refl, arith, sym, ◌∙◌, ap, subst}
use Rattle.std.proofs.lemmas.Bool.{cases_lt, both_ways, or_cases, or_left, or_right}
use Rattle.std.specs.Prelude.{◌||◌}
use Rattle.rule_model.specs.AddressBlock.{AddressBlock, any_address}
use Rattle.prefix_trie.specs.declared.node.Node.{Node}
use Rattle.prefix_trie.specs.Blocks.{Covers, covers, InHalf, bit_at}
use Rattle.prefix_trie.specs.Nodes.{node_at, child_of}
use Rattle.prefix_trie.specs.Trie.{IsTrie, LeadsTo}
use Rattle.prefix_trie.specs.Nested.{AreNested, order_of, IsNextNested, IsNextTo, IsPassed}
use Rattle.prefix_trie.proofs.Halves.{covers-self, covers-trans, covers-laminar, covers-one, covers-test, covers-parts, covers-any, half_of, half-up, half-trans}
use Rattle.prefix_trie.proofs.Orders.{covers-before, longer-before, halves-before, past-before, nested-up, half_is}
use Rattle.prefix_trie.proofs.Ways.{one_node, leads_over}

-- the test of two blocks is exact
pub nested-parts : (a b : AddressBlock) → (covers a b || covers b a) ≡ true → AreNested a b
nested-parts a b test = elim (or_cases (covers a b) (covers b a) test) [ inl ab ↦ inl (covers-parts a b ab) | inr ba ↦ inr (covers-parts b a ba) ]

pub nested-none : (a b : AddressBlock) → (covers a b || covers b a) ≡ false → AreNested a b → ⊥
nested-none a b test (inl ab) = both_ways (covers a b || covers b a) test (or_left (covers a b) (covers b a) (covers-test a b ab))
nested-none a b test (inr ba) = both_ways (covers a b || covers b a) test (or_right (covers a b) (covers b a) (covers-test b a ba))

-- of nested blocks one no longer than the other covers it
pub nested-in : (a b : AddressBlock) → AreNested a b → a.len ≤ b.len → Covers a b
nested-in a b (inl ab) le = ab
nested-in a b (inr ba) le = covers-laminar a b a (covers-self a) ba le

-- and one that is shorter covers it
pub nested-short : (a b : AddressBlock) → AreNested a b → b.len < a.len → Covers b a
nested-short a b (inl ab) less = let order = ab.order in absurd (omega arith)
nested-short a b (inr ba) less = ba

module _ (nodes : List (Option Node)) (trie : IsTrie nodes) (block : AddressBlock) where
  -- a node behind another is on the block's side of it, where that is shorter than the block
  toward_held : (at : ℕ) (here : Node) → node_at nodes at ≡ Some here → Covers here.prefix block → here.prefix.len < block.len → (other : ℕ) (held : Node) → node_at nodes other ≡ Some held
      → AreNested block held.prefix → order_of here.prefix < order_of held.prefix → LeadsTo nodes here (bit_at block.addr here.prefix.len) held.prefix
  toward_held at here is cov less other held held_is (inl bm) later =
      let most = (trie.blocks other held held_is).length in
      let inner = bm.order in
      trie.leads at other (bit_at block.addr here.prefix.len) here held is held_is
      (half-trans here.prefix block held.prefix (bit_at block.addr here.prefix.len) (omega arith) (half_of here.prefix block cov less) bm)
  toward_held at here is cov less other held held_is (inr mb) later = elim (cases_lt here.prefix.len held.prefix.len) [
    | inl longer ↦ leads_over nodes trie at other here held block is held_is cov mb longer
    | inr le ↦
        let over = covers-laminar held.prefix here.prefix block mb cov le in
        let before = covers-before held.prefix here.prefix (trie.blocks other held held_is) over in
        absurd (omega arith)
  ]

  pub toward_none : (at : ℕ) (here : Node) → node_at nodes at ≡ Some here → Covers here.prefix block → here.prefix.len < block.len → child_of here (bit_at block.addr here.prefix.len) ≡ None
      → IsNextTo nodes block here.prefix None
  toward_none at here is cov less none other held held_is near later =
      let leads = toward_held at here is cov less other held held_is near later in
      absurd (cc (leads.link, none))

  -- the child that leads to a node
  led : (here : Node) (bit : Bool) (child : ℕ) (below : Node) (held : AddressBlock) → child_of here bit ≡ Some child → node_at nodes child ≡ Some below → LeadsTo nodes here bit held → Covers below.prefix held
  led here bit child below held link is leads =
      let place : leads.child ≡ child = cc (leads.link, link) in
      let there : node_at nodes child ≡ Some leads.below = subst (λ (p : ℕ). node_at nodes p ≡ Some leads.below) place leads.is in
      let same = one_node nodes child leads.below below there is in
      subst (λ (n : Node). Covers n.prefix held) same leads.covers

  pub toward_far : (at : ℕ) (here : Node) → node_at nodes at ≡ Some here → Covers here.prefix block → here.prefix.len < block.len → (child : ℕ) (below : Node)
      → child_of here (bit_at block.addr here.prefix.len) ≡ Some child → node_at nodes child ≡ Some below → (AreNested block below.prefix → ⊥) → IsNextTo nodes block here.prefix None
  toward_far at here is cov less child below link below_is far other held held_is near later =
      let leads = toward_held at here is cov less other held held_is near later in
      far (nested-up block below.prefix held.prefix (led here (bit_at block.addr here.prefix.len) child below held.prefix link below_is leads) near)

  pub toward_next : (at : ℕ) (here : Node) → node_at nodes at ≡ Some here → Covers here.prefix block → here.prefix.len < block.len → (child : ℕ) (below : Node)
      → child_of here (bit_at block.addr here.prefix.len) ≡ Some child → node_at nodes child ≡ Some below → AreNested block below.prefix → IsNextTo nodes block here.prefix (Some child)
  toward_next at here is cov less child below link below_is near_it =
      let down = trie.children at child (bit_at block.addr here.prefix.len) here is link in
      let same = one_node nodes child down.node below down.is below_is in
      let half : InHalf here.prefix (bit_at block.addr here.prefix.len) below.prefix = subst (λ (n : Node). InHalf here.prefix (bit_at block.addr here.prefix.len) n.prefix) same down.half in
      record {
        node = below;
        is = below_is;
        nested = near_it;
        later = longer-before here.prefix below.prefix (trie.blocks at here is) half.covers half.longer;
        least = λ other held held_is near later.
            let leads = toward_held at here is cov less other held held_is near later in
            covers-before below.prefix held.prefix (trie.blocks child below below_is) (led here (bit_at block.addr here.prefix.len) child below held.prefix link below_is leads);
      }

  -- what a node covers and comes behind it is in one of its halves
  behind_half : (at : ℕ) (here : Node) → node_at nodes at ≡ Some here → (other : ℕ) (held : Node) → node_at nodes other ≡ Some held → Covers here.prefix held.prefix → order_of here.prefix < order_of held.prefix
      → (bit : Bool) → bit_at held.prefix.addr here.prefix.len ≡ bit → InHalf here.prefix bit held.prefix
  behind_half at here is other held held_is cov later bit bit_is = elim (cases_lt here.prefix.len held.prefix.len) [
    | inl less ↦ half_is here.prefix held.prefix bit cov less bit_is
    | inr le ↦
        let one = covers-one here.prefix held.prefix (trie.blocks at here is) (trie.blocks other held held_is) cov le in
        let same = ap order_of one in
        absurd (omega arith)
  ]

  -- what a node covers doesn't come before its first child
  under : (at : ℕ) (here : Node) → node_at nodes at ≡ Some here → (bit : Bool) (child : ℕ) (below : Node) → child_of here bit ≡ Some child → node_at nodes child ≡ Some below → InHalf here.prefix bit below.prefix
      → (bit ≡ true → here.zero ≡ None) → (other : ℕ) (held : Node) → node_at nodes other ≡ Some held → Covers here.prefix held.prefix → order_of here.prefix < order_of held.prefix
      → (of : Bool) → bit_at held.prefix.addr here.prefix.len ≡ of → order_of below.prefix ≤ order_of held.prefix
  under at here is false child below link below_is half none other held held_is cov later false of_is =
      let leads = trie.leads at other false here held is held_is (behind_half at here is other held held_is cov later false of_is) in
      covers-before below.prefix held.prefix (trie.blocks child below below_is) (led here false child below held.prefix link below_is leads)
  under at here is true child below link below_is half none other held held_is cov later true of_is =
      let leads = trie.leads at other true here held is held_is (behind_half at here is other held held_is cov later true of_is) in
      covers-before below.prefix held.prefix (trie.blocks child below below_is) (led here true child below held.prefix link below_is leads)
  under at here is false child below link below_is half none other held held_is cov later true of_is =
      let second = behind_half at here is other held held_is cov later true of_is in
      let most = (trie.blocks other held held_is).length in
      let longer = second.longer in
      let before = halves-before here.prefix below.prefix held.prefix (omega arith) (trie.blocks child below below_is) half second in
      omega arith
  under at here is true child below link below_is half none other held held_is cov later false of_is =
      let leads = trie.leads at other false here held is held_is (behind_half at here is other held held_is cov later false of_is) in
      absurd (cc (leads.link, none refl))

  -- the first child of a node in the block comes behind it, and nothing between
  child_least : (at : ℕ) (here : Node) → node_at nodes at ≡ Some here → (bit : Bool) (child : ℕ) (below : Node) → child_of here bit ≡ Some child → node_at nodes child ≡ Some below → InHalf here.prefix bit below.prefix
      → (bit ≡ true → here.zero ≡ None) → (other : ℕ) (held : Node) → node_at nodes other ≡ Some held → order_of here.prefix < order_of held.prefix
      → (test : Bool) → covers here.prefix held.prefix ≡ test → order_of below.prefix ≤ order_of held.prefix
  child_least at here is bit child below link below_is half none other held held_is later true test =
      under at here is bit child below link below_is half none other held held_is (covers-parts here.prefix held.prefix test) later (bit_at held.prefix.addr here.prefix.len) refl
  child_least at here is bit child below link below_is half none other held held_is later false test =
      let before = past-before here.prefix here.prefix held.prefix below.prefix (trie.blocks other held held_is) (trie.blocks child below below_is) (covers-self here.prefix) half.covers
      (λ cov. both_ways (covers here.prefix held.prefix) test (covers-test here.prefix held.prefix cov))
      (λ over. let early = covers-before held.prefix here.prefix (trie.blocks other held held_is) over in absurd (omega arith)) later in
      omega arith

  pub child_next : (at : ℕ) (here : Node) → node_at nodes at ≡ Some here → Covers block here.prefix → (bit : Bool) (child : ℕ) → child_of here bit ≡ Some child → (bit ≡ true → here.zero ≡ None)
      → IsNextTo nodes block here.prefix (Some child)
  child_next at here is inside bit child link none =
      let down = trie.children at child bit here is link in
      record {
        node = down.node;
        is = down.is;
        nested = inl (covers-trans block here.prefix down.node.prefix inside down.half.covers);
        later = longer-before here.prefix down.node.prefix (trie.blocks at here is) down.half.covers down.half.longer;
        least = λ other held held_is near later. child_least at here is bit child down.node link down.is down.half none other held held_is later (covers here.prefix held.prefix) refl;
      }

  -- a node without children covers nothing behind it
  pub leaf_passed : (from : ℕ) (here : Node) → node_at nodes from ≡ Some here → here.zero ≡ None → here.one ≡ None → Covers block here.prefix → IsPassed nodes block from from
  leaf_passed from here is no_zero no_one inside = record {
    start = here;
    node = here;
    start_is = is;
    is = is;
    inside = inside;
    covers = covers-self here.prefix;
    passed = λ other held held_is cov later. none other held held_is cov later (bit_at held.prefix.addr here.prefix.len) refl;
  }
    where
      no_child : (bit : Bool) → child_of here bit ≡ None
      no_child false = no_zero
      no_child true = no_one

      none : (other : ℕ) (held : Node) → node_at nodes other ≡ Some held → Covers here.prefix held.prefix → order_of here.prefix < order_of held.prefix → (bit : Bool) → bit_at held.prefix.addr here.prefix.len ≡ bit → ⊥
      none other held held_is cov later bit bit_is =
          let leads = trie.leads from other bit here held is held_is (behind_half from here is other held held_is cov later bit bit_is) in
          cc (leads.link, no_child bit)

  -- a node reached on the way up, and its parent
  pub record IsRise (from at parent : ℕ) (way : IsPassed nodes block from at) (up : Node) : Type 0 where
    bit : Bool
    half : InHalf up.prefix bit way.node.prefix
    link : child_of up bit ≡ Some at

  pub rise : (from at parent : ℕ) (way : IsPassed nodes block from at) (up : Node) → way.node.parent ≡ Some parent → node_at nodes parent ≡ Some up → IsRise from at parent way up
  rise from at parent way up parent_is up_is =
      let above = trie.parents at parent way.node way.is parent_is in
      let same = one_node nodes parent above.node up above.is up_is in
      record {
        bit = above.bit;
        half = subst (λ (n : Node). InHalf n.prefix above.bit way.node.prefix) same above.half;
        link = subst (λ (n : Node). child_of n above.bit ≡ Some at) same above.link;
      }

  -- past a parent shorter than the block nothing in the block is left
  pub up_short : (from at parent : ℕ) (way : IsPassed nodes block from at) (up : Node) → way.node.parent ≡ Some parent → node_at nodes parent ≡ Some up → up.prefix.len < block.len
      → IsNextTo nodes block way.start.prefix None
  up_short from at parent way up parent_is up_is less other held held_is (inr mb) later =
      let over = covers-trans held.prefix block way.start.prefix mb (covers-trans block way.node.prefix way.start.prefix way.inside way.covers) in
      let early = covers-before held.prefix way.start.prefix (trie.blocks other held held_is) over in
      absurd (omega arith)
  up_short from at parent way up parent_is up_is less other held held_is (inl bm) later =
      let it = rise from at parent way up parent_is up_is in
      let most = (trie.blocks at way.node way.is).length in
      let order = way.inside.order in
      let over = covers-laminar up.prefix block way.node.prefix it.half.covers way.inside (omega arith) in
      let side = half-up up.prefix block way.node.prefix it.bit (omega arith) it.half over way.inside less in
      let half = half-trans up.prefix block held.prefix it.bit (omega arith) side bm in
      let leads = trie.leads parent other it.bit up held up_is held_is half in
      way.passed other held held_is (led up it.bit at way.node held.prefix it.link way.is leads) later

  -- a parent in the block
  up_inside : (from at parent : ℕ) (way : IsPassed nodes block from at) (up : Node) → way.node.parent ≡ Some parent → node_at nodes parent ≡ Some up → block.len ≤ up.prefix.len → Covers block up.prefix
  up_inside from at parent way up parent_is up_is le = covers-laminar block up.prefix way.node.prefix way.inside (rise from at parent way up parent_is up_is).half.covers le

  -- what comes behind the first and is on the side from which the way came was passed
  same_side : (from at parent : ℕ) (way : IsPassed nodes block from at) (up : Node) → node_at nodes parent ≡ Some up → (bit : Bool) → child_of up bit ≡ Some at
      → (other : ℕ) (held : Node) → node_at nodes other ≡ Some held → InHalf up.prefix bit held.prefix → order_of way.start.prefix < order_of held.prefix → ⊥
  same_side from at parent way up up_is bit link other held held_is half later =
      let leads = trie.leads parent other bit up held up_is held_is half in
      way.passed other held held_is (led up bit at way.node held.prefix link way.is leads) later

  -- the start is on that side
  start_side : (from at parent : ℕ) (way : IsPassed nodes block from at) (up : Node) (bit : Bool) → InHalf up.prefix bit way.node.prefix → InHalf up.prefix bit way.start.prefix
  start_side from at parent way up bit half =
      let most = (trie.blocks at way.node way.is).length in
      let longer = half.longer in
      half-trans up.prefix way.node.prefix way.start.prefix bit (omega arith) half way.covers

  -- what comes behind the first comes behind a node that covers that, or isn't under it
  behind_up : (from at parent : ℕ) (way : IsPassed nodes block from at) (up : Node) → node_at nodes parent ≡ Some up → Covers up.prefix way.node.prefix
      → (other : ℕ) (held : Node) → node_at nodes other ≡ Some held → order_of way.start.prefix < order_of held.prefix → order_of up.prefix < order_of held.prefix
  behind_up from at parent way up up_is cov other held held_is later =
      let early = covers-before up.prefix way.start.prefix (trie.blocks parent up up_is) (covers-trans up.prefix way.node.prefix way.start.prefix cov way.covers) in
      omega arith

  -- the second child of a parent, where the way came from the first
  right_least : (from at parent : ℕ) (way : IsPassed nodes block from at) (up : Node) → node_at nodes parent ≡ Some up → InHalf up.prefix false way.node.prefix → child_of up false ≡ Some at
      → (right : ℕ) (below : Node) → child_of up true ≡ Some right → node_at nodes right ≡ Some below → InHalf up.prefix true below.prefix
      → (other : ℕ) (held : Node) → node_at nodes other ≡ Some held → order_of way.start.prefix < order_of held.prefix
      → (test : Bool) → covers up.prefix held.prefix ≡ test → (of : Bool) → bit_at held.prefix.addr up.prefix.len ≡ of → order_of below.prefix ≤ order_of held.prefix
  right_least from at parent way up up_is half link right below right_is below_is half_below other held held_is later true test false of_is =
      let cov = covers-parts up.prefix held.prefix test in
      let behind = behind_up from at parent way up up_is half.covers other held held_is later in
      absurd (same_side from at parent way up up_is false link other held held_is (behind_half parent up up_is other held held_is cov behind false of_is) later)
  right_least from at parent way up up_is half link right below right_is below_is half_below other held held_is later true test true of_is =
      let cov = covers-parts up.prefix held.prefix test in
      let behind = behind_up from at parent way up up_is half.covers other held held_is later in
      let leads = trie.leads parent other true up held up_is held_is (behind_half parent up up_is other held held_is cov behind true of_is) in
      covers-before below.prefix held.prefix (trie.blocks right below below_is) (led up true right below held.prefix right_is below_is leads)
  right_least from at parent way up up_is half link right below right_is below_is half_below other held held_is later false test of of_is =
      let over_start = covers-trans up.prefix way.node.prefix way.start.prefix half.covers way.covers in
      let before = past-before up.prefix way.start.prefix held.prefix below.prefix (trie.blocks other held held_is) (trie.blocks right below below_is) over_start half_below.covers
      (λ cov. both_ways (covers up.prefix held.prefix) test (covers-test up.prefix held.prefix cov))
      (λ over.
      let early = covers-before held.prefix way.start.prefix (trie.blocks other held held_is) (covers-trans held.prefix up.prefix way.start.prefix over over_start) in
      absurd (omega arith)) later in
      omega arith

  pub up_right : (from at parent : ℕ) (way : IsPassed nodes block from at) (up : Node) → way.node.parent ≡ Some parent → node_at nodes parent ≡ Some up → block.len ≤ up.prefix.len
      → (right : ℕ) → up.one ≡ Some right → right ≢ at → IsNextTo nodes block way.start.prefix (Some right)
  up_right from at parent way up parent_is up_is le right right_is off = by it.bit it.half it.link
    where
      it : IsRise from at parent way up
      it = rise from at parent way up parent_is up_is

      by : (bit : Bool) → InHalf up.prefix bit way.node.prefix → child_of up bit ≡ Some at → IsNextNested nodes block way.start.prefix right
      by true half link = absurd (off (let one : up.one ≡ Some at = link in cc))
      by false half link =
          let down = trie.children parent right true up up_is right_is in
          let most = (trie.blocks right down.node down.is).length in
          let longer = down.half.longer in
          record {
            node = down.node;
            is = down.is;
            nested = inl (covers-trans block up.prefix down.node.prefix (up_inside from at parent way up parent_is up_is le) down.half.covers);
            later = halves-before up.prefix way.start.prefix down.node.prefix (omega arith) (trie.blocks from way.start way.start_is) (start_side from at parent way up false half) down.half;
            least = λ other held held_is near later.
                right_least from at parent way up up_is half link right down.node right_is down.is down.half other held held_is later (covers up.prefix held.prefix) refl (bit_at held.prefix.addr up.prefix.len) refl;
          }

  -- past a parent on whose other side nothing comes behind
  pub up_past : (from at parent : ℕ) (way : IsPassed nodes block from at) (up : Node) → way.node.parent ≡ Some parent → node_at nodes parent ≡ Some up → block.len ≤ up.prefix.len
      → (up.one ≡ None) ⊎ (up.one ≡ Some at) → IsPassed nodes block from parent
  up_past from at parent way up parent_is up_is le no_right = record {
    start = way.start;
    node = up;
    start_is = way.start_is;
    is = up_is;
    inside = up_inside from at parent way up parent_is up_is le;
    covers = covers-trans up.prefix way.node.prefix way.start.prefix it.half.covers way.covers;
    passed = λ other held held_is cov later.
        passed other held held_is later (bit_at held.prefix.addr up.prefix.len)
        (behind_half parent up up_is other held held_is cov (behind_up from at parent way up up_is it.half.covers other held held_is later) (bit_at held.prefix.addr up.prefix.len) refl) it.bit it.half it.link no_right;
  }
    where
      it : IsRise from at parent way up
      it = rise from at parent way up parent_is up_is

      passed : (other : ℕ) (held : Node) → node_at nodes other ≡ Some held → order_of way.start.prefix < order_of held.prefix → (of : Bool) → InHalf up.prefix of held.prefix
          → (bit : Bool) → InHalf up.prefix bit way.node.prefix → child_of up bit ≡ Some at → (up.one ≡ None) ⊎ (up.one ≡ Some at) → ⊥
      passed other held held_is later true in_half bit half link (inl none) =
          let leads = trie.leads parent other true up held up_is held_is in_half in
          let second : up.one ≡ Some leads.child = leads.link in
          cc (second, none)
      passed other held held_is later true in_half bit half link (inr here) = same_side from at parent way up up_is true here other held held_is in_half later
      passed other held held_is later false in_half false half link right = same_side from at parent way up up_is false link other held held_is in_half later
      passed other held held_is later false in_half true half link right =
          let most = (trie.blocks other held held_is).length in
          let longer = in_half.longer in
          let before = halves-before up.prefix held.prefix way.start.prefix (omega arith) (trie.blocks other held held_is) in_half (start_side from at parent way up true half) in
          absurd (omega arith)

  -- and past the node of every address
  pub up_ended : (from at : ℕ) (way : IsPassed nodes block from at) → way.node.parent ≡ None → IsNextTo nodes block way.start.prefix None
  up_ended from at way none other held held_is near later =
      let top = trie.tops at way.node way.is none in
      let there : node_at nodes 0 ≡ Some way.node = subst (λ (p : ℕ). node_at nodes p ≡ Some way.node) top way.is in
      let first = one_node nodes 0 way.node trie.first there trie.root in
      let whole : way.node.prefix ≡ any_address = ap (λ (n : Node). n.prefix) first ∙ trie.whole in
      let cov : Covers way.node.prefix held.prefix = subst (λ (b : AddressBlock). Covers b held.prefix) (sym whole) (covers-any held.prefix (trie.blocks other held held_is)) in
      way.passed other held held_is cov later
