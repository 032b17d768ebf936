-- Texts one behind the other.
use Rattle.std.proofs.Common.{◌≡◌, ℕ, ◌+◌, ◌*◌, ◌/◌, ◌%◌, ◌^◌, ◌<◌, Bool, true, false, List, [], ◌∷◌, ◌++◌, refl, sym, ap, ◌∙◌, append_assoc, decimal, arith}
use Rattle.std.proofs.lemmas.Fmt.{decimal_digit, decimal_step_wide}
use Rattle.rule_model.specs.declared.IpVersion.TheVariants.{V6}
use Rattle.rule_model.specs.declared.Rule.{Rule}
use Rattle.rule_model.specs.declared.words.Entry.{Entry}
use Rattle.json_text.specs.JsonText.{block_numbers, comma_text, entry_text, lane_numbers, protocol_text, rank_numbers, rule_text}

-- a number whose last digit is written apart, behind a line
pub last_digit : (line : List ℕ) (tens ones number : ℕ) → number ≡ 10 * tens + ones → ones < 10 → 0 < tens → number < 10 ^ 64
    → (line ++ decimal tens) ++ decimal ones ≡ line ++ decimal number
last_digit line tens ones number is few some small =
    let front : number / 10 ≡ tens = omega arith in
    let last : number % 10 ≡ ones = omega arith in
    let whole : decimal number ≡ decimal tens ++ decimal ones =
    decimal_step_wide number (omega arith) small ∙ ap (λ n. decimal n ++ (48 + number % 10) ∷ []) front ∙ ap (λ n. decimal tens ++ (48 + n) ∷ []) last
    ∙ ap (λ text. decimal tens ++ text) (sym (decimal_digit ones few)) in
    append_assoc line (decimal tens) (decimal ones) ∙ ap (λ text. line ++ text) (sym whole)

-- the values of a rule behind a line, with a sign between some of them
with_signs : (line s a b c d e f g h i j k : List ℕ) → (((((((((((line ++ a) ++ s) ++ (b ++ c)) ++ s) ++ (d ++ e)) ++ s) ++ f) ++ s) ++ (g ++ h)) ++ s) ++ (i ++ j)) ++ k
    ≡ line ++ (a ++ (s ++ (b ++ (c ++ (s ++ (d ++ (e ++ (s ++ (f ++ (s ++ (g ++ (h ++ (s ++ (i ++ (j ++ k)))))))))))))))
with_signs line s a b c d e f g h i j k = simp append_assoc

-- a priority, two blocks, a protocol, two ranges and a result, with commas between all numbers
pub eleven_values : (line a b c d e f g h i j k : List ℕ)
    → (((((((((((line ++ a) ++ 44 ∷ []) ++ (b ++ 44 ∷ c)) ++ 44 ∷ []) ++ (d ++ 44 ∷ e)) ++ 44 ∷ []) ++ f) ++ 44 ∷ []) ++ (g ++ 44 ∷ h)) ++ 44 ∷ []) ++ (i ++ 44 ∷ j)) ++ 44 ∷ k
    ≡ line ++ (a ++ 44 ∷ (b ++ 44 ∷ (c ++ 44 ∷ (d ++ 44 ∷ (e ++ 44 ∷ (f ++ 44 ∷ (g ++ 44 ∷ (h ++ 44 ∷ (i ++ 44 ∷ (j ++ 44 ∷ k))))))))))
eleven_values line a b c d e f g h i j k = with_signs line (44 ∷ []) a b (44 ∷ c) d (44 ∷ e) f g (44 ∷ h) i (44 ∷ j) (44 ∷ k)

-- two lists of values, with a comma between them
pub comma_append : (value : List ℕ) (values : List (List ℕ)) (next : List ℕ) (more : List (List ℕ))
    → comma_text ((value ∷ values) ++ next ∷ more) ≡ comma_text (value ∷ values) ++ 44 ∷ comma_text (next ∷ more)
comma_append value [] next more = refl
comma_append value (second ∷ values) next more =
    ap (λ text. value ++ 44 ∷ text) (comma_append second values next more) ∙ sym (append_assoc value (44 ∷ comma_text (second ∷ values)) (44 ∷ comma_text (next ∷ more)))

-- a priority, two blocks, a protocol, two ranges and a result, of IPv6
pub wide_values : (line r s d f g h i j k : List ℕ)
    → (((((((((((line ++ r) ++ 44 ∷ []) ++ s) ++ 44 ∷ []) ++ d) ++ 44 ∷ []) ++ f) ++ 44 ∷ []) ++ (g ++ 44 ∷ h)) ++ 44 ∷ []) ++ (i ++ 44 ∷ j)) ++ 44 ∷ k
    ≡ line ++ (((r ++ 44 ∷ s) ++ 44 ∷ d) ++ 44 ∷ (f ++ 44 ∷ (g ++ 44 ∷ (h ++ 44 ∷ (i ++ 44 ∷ (j ++ 44 ∷ k))))))
wide_values line r s d f g h i j k = simp append_assoc

eleven_texts : (line a b c d e f g h i j k : List ℕ)
    → ((((((((((line ++ a) ++ b) ++ c) ++ d) ++ e) ++ f) ++ g) ++ h) ++ i) ++ j) ++ k ≡ line ++ (a ++ (b ++ (c ++ (d ++ (e ++ (f ++ (g ++ (h ++ (i ++ (j ++ k))))))))))
eleven_texts line a b c d e f g h i j k = simp append_assoc

-- a word of eleven lanes
pub eleven_lanes : (line a b c d e f g h i j k : List ℕ)
    → ((((((((((line ++ a) ++ 44 ∷ b) ++ 44 ∷ c) ++ 44 ∷ d) ++ 44 ∷ e) ++ 44 ∷ f) ++ 44 ∷ g) ++ 44 ∷ h) ++ 44 ∷ i) ++ 44 ∷ j) ++ 44 ∷ k
    ≡ line ++ (a ++ 44 ∷ (b ++ 44 ∷ (c ++ 44 ∷ (d ++ 44 ∷ (e ++ 44 ∷ (f ++ 44 ∷ (g ++ 44 ∷ (h ++ 44 ∷ (i ++ 44 ∷ (j ++ 44 ∷ k))))))))))
eleven_lanes line a b c d e f g h i j k =
    eleven_texts line a (44 ∷ b) (44 ∷ c) (44 ∷ d) (44 ∷ e) (44 ∷ f) (44 ∷ g) (44 ∷ h) (44 ∷ i) (44 ∷ j) (44 ∷ k)

-- a value, and values behind it
pub behind_comma : (line value values : List ℕ) → ((line ++ value) ++ 44 ∷ []) ++ values ≡ line ++ (value ++ 44 ∷ values)
behind_comma line value values = simp append_assoc

-- a value, a mask, a tag and a result
pub four_parts : (line value mask tag answer : List ℕ)
    → (((((line ++ value) ++ 44 ∷ []) ++ mask) ++ 44 ∷ []) ++ tag) ++ 44 ∷ answer ≡ line ++ (((value ++ 44 ∷ mask) ++ 44 ∷ tag) ++ 44 ∷ answer)
four_parts line value mask tag answer = simp append_assoc

-- a list that isn't empty
abbrev starts : List (List ℕ) → Bool
starts [] = false
starts (value ∷ values) = true

joined : (xs ys : List (List ℕ)) → starts xs ≡ true → starts ys ≡ true → comma_text (xs ++ ys) ≡ comma_text xs ++ 44 ∷ comma_text ys
joined (x ∷ xs) (y ∷ ys) some more = comma_append x xs y ys
joined [] ys some more = absurd (cc)
joined (x ∷ xs) [] some more = absurd (cc)

front : (xs ys : List (List ℕ)) → starts xs ≡ true → starts (xs ++ ys) ≡ true
front (x ∷ xs) ys some = refl
front [] ys some = absurd (cc)

four_joined : (a b c d : List (List ℕ)) → starts a ≡ true → starts b ≡ true → starts c ≡ true → starts d ≡ true
    → comma_text (((a ++ b) ++ c) ++ d) ≡ ((comma_text a ++ 44 ∷ comma_text b) ++ 44 ∷ comma_text c) ++ 44 ∷ comma_text d
four_joined a b c d sa sb sc sd =
    joined ((a ++ b) ++ c) d (front (a ++ b) c (front a b sa)) sd
    ∙ ap (λ text. text ++ 44 ∷ comma_text d) (joined (a ++ b) c (front a b sa) sc ∙ ap (λ text. text ++ 44 ∷ comma_text c) (joined a b sa sb))

pub rule_commas : (rule : Rule) → comma_text (rule_text V6 rule)
    ≡ ((comma_text (rank_numbers V6 rule.priority) ++ 44 ∷ comma_text (block_numbers V6 rule.src)) ++ 44 ∷ comma_text (block_numbers V6 rule.dst))
    ++ 44 ∷ (protocol_text rule.proto ++ 44 ∷ (decimal rule.sport.lo ++ 44 ∷ (decimal rule.sport.hi ++ 44 ∷ (decimal rule.dport.lo ++ 44 ∷ (decimal rule.dport.hi ++ 44 ∷ decimal rule.result)))))
rule_commas rule =
    let rest : List (List ℕ) =
    protocol_text rule.proto ∷ decimal rule.sport.lo ∷ decimal rule.sport.hi ∷ decimal rule.dport.lo ∷ decimal rule.dport.hi ∷ decimal rule.result ∷ [] in
    four_joined (rank_numbers V6 rule.priority) (block_numbers V6 rule.src) (block_numbers V6 rule.dst) rest refl refl refl refl

pub entry_commas : (entry : Entry) → comma_text (entry_text V6 entry)
    ≡ ((comma_text (lane_numbers V6 entry.value) ++ 44 ∷ comma_text (lane_numbers V6 entry.mask)) ++ 44 ∷ comma_text (rank_numbers V6 entry.tag)) ++ 44 ∷ decimal entry.result
entry_commas entry =
    four_joined (lane_numbers V6 entry.value) (lane_numbers V6 entry.mask) (rank_numbers V6 entry.tag) (decimal entry.result ∷ []) refl refl refl refl
