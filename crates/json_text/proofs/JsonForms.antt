-- What is printed for the lines of a trace are the texts of their JSON values.
use Rattle.std.proofs.Common.{◌≡◌, ℕ, List, [], ◌∷◌, ◌++◌, map, Option, Some, None, refl, sym, ap, ap₂, ◌∙◌, append_assoc, append-nil}
use Rattle.std.specs.Prelude.{true, false, codes, decimal}
use Rattle.json.specs.Print.{quoted as json_quoted}
use Rattle.json.proofs.OnLiterals.{json_on_literals}
use Rattle.serde_json.specs.Data.{Data, array, string}
use Rattle.serde_json.specs.Written.{compact_text, items_text}
use Rattle.rule_model.specs.declared.IpVersion.{IpVersion}
use Rattle.rule_model.specs.declared.IpVersion.TheVariants.{V4, V6}
use Rattle.rule_model.specs.declared.Rule.{Rule}
use Rattle.rule_model.specs.declared.Field.{Field}
use Rattle.rule_model.specs.declared.Field.TheVariants.{Src, Dst}
use Rattle.rule_model.specs.declared.words.Entry.{Entry}
use Rattle.trace_file.specs.declared.TraceLine.{TraceLine}
use Rattle.trace_file.specs.declared.TraceLine.TheVariants.{Head, Commit, Add, Set, Del, Put, Erase, Table, Drain, Done, Refused, End, Fault}
use Rattle.trace_file.specs.Forms.{numeral, rank_form, rule_form, entry_form, removed_form, proto_form, field_form, items_form, one, two, three, form_of}
use Rattle.json_text.specs.JsonText.{JsonLinesAreTexts, quoted, comma_text, member_text, array_text, object_line, rank_numbers, rule_text, entry_text, removed_text, protocol_text, json_line}

-- a value's text, and the line feed
abbrev text_of : IpVersion → List ℕ → TraceLine → List ℕ
text_of version text line = compact_text (form_of version text line) ++ 10 ∷ []

-- the texts of some values
abbrev texts : List Data → List (List ℕ)
texts values = map compact_text values

-- texts, each behind a comma
abbrev after_comma : List (List ℕ) → List ℕ
after_comma [] = []
after_comma (text ∷ rest) = 44 ∷ text ++ after_comma rest

commas : (text : List ℕ) (rest : List (List ℕ)) → comma_text (text ∷ rest) ≡ text ++ after_comma rest
commas text [] = sym (append-nil text)
commas text (next ∷ rest) = ap (λ t. text ++ 44 ∷ t) (commas next rest)

more_items : (values : List Data) → items_text true (items_form values) ≡ after_comma (texts values) ++ 93 ∷ []
more_items [] = refl
more_items (value ∷ values) =
    ap (λ t. 44 ∷ t) (ap (λ t. compact_text value ++ t) (more_items values) ∙ sym (append_assoc (compact_text value) (after_comma (texts values)) (93 ∷ [])))

-- an array's text
array-is : (value : Data) (values : List Data) → 91 ∷ items_text false (items_form (value ∷ values)) ≡ array_text (texts (value ∷ values))
array-is value values =
    ap (λ t. 91 ∷ t) (ap (λ t. compact_text value ++ t) (more_items values) ∙ (sym (append_assoc (compact_text value) (after_comma (texts values)) (93 ∷ []))
    ∙ ap (λ t. t ++ 93 ∷ []) (sym (commas (compact_text value) (texts values)))))

arrays-is : (values : List Data) → compact_text (array (items_form values)) ≡ array_text (texts values)
arrays-is [] = refl
arrays-is (value ∷ values) = array-is value values

-- lines of one member, of two and of three
one-is : (key : List ℕ) (value : Data) (text : List ℕ) → json_quoted key ≡ quoted key → compact_text value ≡ text
    → compact_text (one key value) ++ 10 ∷ [] ≡ object_line (member_text key text ∷ [])
one-is key value text named is = ap₂ (λ k t. (123 ∷ (k ++ 58 ∷ (t ++ 125 ∷ []))) ++ 10 ∷ []) named is ∙ grouped (quoted key) text
  where
    grouped : (k t : List ℕ) → (123 ∷ (k ++ 58 ∷ (t ++ 125 ∷ []))) ++ 10 ∷ [] ≡ 123 ∷ (k ++ 58 ∷ t) ++ 125 ∷ 10 ∷ []
    grouped k t = simp append_assoc

abbrev two_text : List ℕ → List ℕ → List ℕ → List ℕ → List ℕ
two_text k t k' t' = (123 ∷ (k ++ 58 ∷ (t ++ 44 ∷ (k' ++ 58 ∷ (t' ++ 125 ∷ []))))) ++ 10 ∷ []

abbrev three_text : List ℕ → List ℕ → List ℕ → List ℕ → List ℕ → List ℕ → List ℕ
three_text k t k' t' k'' t'' = (123 ∷ (k ++ 58 ∷ (t ++ 44 ∷ (k' ++ 58 ∷ (t' ++ 44 ∷ (k'' ++ 58 ∷ (t'' ++ 125 ∷ []))))))) ++ 10 ∷ []

two-is : (key : List ℕ) (value : Data) (text key' : List ℕ) (value' : Data) (text' : List ℕ) → json_quoted key ≡ quoted key → json_quoted key' ≡ quoted key' → compact_text value ≡ text → compact_text value' ≡ text'
    → compact_text (two key value key' value') ++ 10 ∷ [] ≡ object_line (member_text key text ∷ member_text key' text' ∷ [])
two-is key value text key' value' text' named named' is is' =
    ap₂ (λ k t. two_text k t (json_quoted key') (compact_text value')) named is ∙ (ap₂ (λ k t. two_text (quoted key) text k t) named' is' ∙ grouped (quoted key) text (quoted key') text')
  where
    grouped : (k t k' t' : List ℕ) → (123 ∷ (k ++ 58 ∷ (t ++ 44 ∷ (k' ++ 58 ∷ (t' ++ 125 ∷ []))))) ++ 10 ∷ [] ≡ 123 ∷ ((k ++ 58 ∷ t) ++ 44 ∷ (k' ++ 58 ∷ t')) ++ 125 ∷ 10 ∷ []
    grouped k t k' t' = simp append_assoc

three-is : (key : List ℕ) (value : Data) (text key' : List ℕ) (value' : Data) (text' key'' : List ℕ) (value'' : Data) (text'' : List ℕ) → json_quoted key ≡ quoted key → json_quoted key' ≡ quoted key' → json_quoted key'' ≡ quoted key''
    → compact_text value ≡ text → compact_text value' ≡ text' → compact_text value'' ≡ text''
    → compact_text (three key value key' value' key'' value'') ++ 10 ∷ [] ≡ object_line (member_text key text ∷ member_text key' text' ∷ member_text key'' text'' ∷ [])
three-is key value text key' value' text' key'' value'' text'' named named' named'' is is' is'' =
    ap₂ (λ k t. three_text k t (json_quoted key') (compact_text value') (json_quoted key'') (compact_text value'')) named is
    ∙ (ap₂ (λ k t. three_text (quoted key) text k t (json_quoted key'') (compact_text value'')) named' is'
    ∙ (ap₂ (λ k t. three_text (quoted key) text (quoted key') text' k t) named'' is'' ∙ grouped (quoted key) text (quoted key') text' (quoted key'') text''))
  where
    grouped : (k t k' t' k'' t'' : List ℕ) → (123 ∷ (k ++ 58 ∷ (t ++ 44 ∷ (k' ++ 58 ∷ (t' ++ 44 ∷ (k'' ++ 58 ∷ (t'' ++ 125 ∷ []))))))) ++ 10 ∷ []
        ≡ 123 ∷ ((k ++ 58 ∷ t) ++ 44 ∷ ((k' ++ 58 ∷ t') ++ 44 ∷ (k'' ++ 58 ∷ t''))) ++ 125 ∷ 10 ∷ []
    grouped k t k' t' k'' t'' = simp append_assoc

proto-is : (proto : Option ℕ) → compact_text (proto_form proto) ≡ protocol_text proto
unfolding json_on_literals
proto-is None = refl
proto-is (Some n) = refl

-- the texts of two lists of values
texts-append : (values more : List Data) → texts (values ++ more) ≡ texts values ++ texts more
texts-append [] more = refl
texts-append (value ∷ values) more = ap (λ rest. compact_text value ∷ rest) (texts-append values more)

ranks-are : (version : IpVersion) (rank : ℕ) → texts (rank_form version rank) ≡ rank_numbers version rank
ranks-are V4 rank = refl
ranks-are V6 rank = refl

-- a line of a command
rule-is : (version : IpVersion) (rule : Rule) → texts (rule_form version rule) ≡ rule_text version rule
rule-is V4 rule = rw (proto-is rule.proto) refl
rule-is V6 rule = rw (proto-is rule.proto) refl

add-is : (version : IpVersion) (rule : Rule) → text_of version [] (Add rule) ≡ json_line version [] (Add rule)
unfolding json_on_literals
add-is version rule =
    one-is (codes "add") (array (items_form (rule_form version rule))) (array_text (rule_text version rule)) refl
    (arrays-is (rule_form version rule) ∙ ap array_text (rule-is version rule))

set-is : (version : IpVersion) (priority answer : ℕ) → text_of version [] (Set priority answer) ≡ json_line version [] (Set priority answer)
unfolding json_on_literals
set-is version priority answer =
    one-is (codes "set") (array (items_form (rank_form version priority ++ numeral answer ∷ []))) (array_text (rank_numbers version priority ++ decimal answer ∷ [])) refl
    (arrays-is (rank_form version priority ++ numeral answer ∷ [])
    ∙ ap array_text (texts-append (rank_form version priority) (numeral answer ∷ []) ∙ ap (λ front. front ++ decimal answer ∷ []) (ranks-are version priority)))

removed-is : (version : IpVersion) (priority : ℕ) → compact_text (removed_form version priority) ≡ removed_text version priority
removed-is V4 priority = refl
removed-is V6 priority = arrays-is (rank_form V6 priority)

del-is : (version : IpVersion) (priority : ℕ) → text_of version [] (Del priority) ≡ json_line version [] (Del priority)
unfolding json_on_literals
del-is version priority = one-is (codes "del") (removed_form version priority) (removed_text version priority) refl (removed-is version priority)

-- of a write
entry-is : (version : IpVersion) (entry : Entry) → texts (entry_form version entry) ≡ entry_text version entry
entry-is V4 entry = refl
entry-is V6 entry = refl

put-is : (version : IpVersion) (slot : ℕ) (entry : Entry) → text_of version [] (Put slot entry) ≡ json_line version [] (Put slot entry)
unfolding json_on_literals
put-is version slot entry =
    two-is (codes "put") (array (items_form (entry_form version entry))) (array_text (entry_text version entry)) (codes "slot") (numeral slot) (decimal slot) refl refl
    (arrays-is (entry_form version entry) ∙ ap array_text (entry-is version entry)) refl

erase-is : (slot : ℕ) → text_of V4 [] (Erase slot) ≡ json_line V4 [] (Erase slot)
unfolding json_on_literals
erase-is slot = one-is (codes "erase") (numeral slot) (decimal slot) refl refl

table-is : (field : Field) (port word : ℕ) → text_of V4 [] (Table field port word) ≡ json_line V4 [] (Table field port word)
unfolding json_on_literals
table-is Src port word = three-is (codes "port") (numeral port) (decimal port) (codes "table") (field_form Src) (quoted (codes "src")) (codes "word") (numeral word) (decimal word) refl refl refl refl refl refl
table-is Dst port word = three-is (codes "port") (numeral port) (decimal port) (codes "table") (field_form Dst) (quoted (codes "dst")) (codes "word") (numeral word) (decimal word) refl refl refl refl refl refl

-- of a drain, of a commit and of the last one
drain-is : text_of V4 [] Drain ≡ json_line V4 [] Drain
unfolding json_on_literals
drain-is = refl

commit-is : (n : ℕ) → text_of V4 [] (Commit n) ≡ json_line V4 [] (Commit n)
unfolding json_on_literals
commit-is n = one-is (codes "commit") (numeral n) (decimal n) refl refl

done-is : (n : ℕ) → text_of V4 [] (Done n) ≡ json_line V4 [] (Done n)
unfolding json_on_literals
done-is n = one-is (codes "done") (numeral n) (decimal n) refl refl

refused-is : (n : ℕ) → text_of V4 [] (Refused n) ≡ json_line V4 [] (Refused n)
unfolding json_on_literals
refused-is n = one-is (codes "refused") (numeral n) (decimal n) refl refl

end-is : (writes : ℕ) → text_of V4 [] (End writes) ≡ json_line V4 [] (End writes)
unfolding json_on_literals
end-is writes = one-is (codes "end") (numeral writes) (decimal writes) refl refl

-- a fault's text has neither quotation marks nor backslashes, so it stands as it is
fault-is : (line : ℕ) (text : List ℕ) → json_quoted text ≡ quoted text → text_of V4 text (Fault line) ≡ json_line V4 text (Fault line)
unfolding json_on_literals
fault-is line text plain = two-is (codes "fault") (string text) (quoted text) (codes "line") (numeral line) (decimal line) refl refl plain refl

-- and of the first
head-is : (family mode : List ℕ) (slots : ℕ) → json_quoted family ≡ quoted family → json_quoted mode ≡ quoted mode
    → compact_text (three (codes "family") (string family) (codes "mode") (string mode) (codes "slots") (numeral slots)) ++ 10 ∷ []
    ≡ object_line (member_text (codes "family") (quoted family) ∷ member_text (codes "mode") (quoted mode) ∷ member_text (codes "slots") (decimal slots) ∷ [])
unfolding json_on_literals
head-is family mode slots plain_family plain_mode =
    three-is (codes "family") (string family) (quoted family) (codes "mode") (string mode) (quoted mode) (codes "slots") (numeral slots) (decimal slots) refl refl refl plain_family plain_mode refl

pub lines_are : JsonLinesAreTexts
unfolding json_on_literals
lines_are version text (Head V4 false false slots) plain = head-is (codes "route") (codes "cover") slots refl refl
lines_are version text (Head V4 false true slots) plain = head-is (codes "route") (codes "bits") slots refl refl
lines_are version text (Head V4 true false slots) plain = head-is (codes "acl") (codes "cover") slots refl refl
lines_are version text (Head V4 true true slots) plain = head-is (codes "acl") (codes "bits") slots refl refl
lines_are version text (Head V6 false false slots) plain = head-is (codes "route6") (codes "cover") slots refl refl
lines_are version text (Head V6 false true slots) plain = head-is (codes "route6") (codes "bits") slots refl refl
lines_are version text (Head V6 true false slots) plain = head-is (codes "acl6") (codes "cover") slots refl refl
lines_are version text (Head V6 true true slots) plain = head-is (codes "acl6") (codes "bits") slots refl refl
lines_are version text (Commit n) plain = commit-is n
lines_are version text (Add rule) plain = add-is version rule
lines_are version text (Set priority answer) plain = set-is version priority answer
lines_are version text (Del priority) plain = del-is version priority
lines_are version text (Put slot entry) plain = put-is version slot entry
lines_are version text (Erase slot) plain = erase-is slot
lines_are version text (Table field port word) plain = table-is field port word
lines_are version text Drain plain = drain-is
lines_are version text (Done n) plain = done-is n
lines_are version text (Refused n) plain = refused-is n
lines_are version text (End writes) plain = end-is writes
lines_are version text (Fault number) plain = fault-is number text plain
