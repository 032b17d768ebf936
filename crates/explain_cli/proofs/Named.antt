-- The first word of a command line stands for the program's name, whatever it is.
use Rattle.std.proofs.Common.{◌≡◌, ◌==◌, ◌∙◌, ℕ, true, Option, List, [], ◌∷◌, drop, length, map, ap, refl, sym, subst, arith, eqb-true}
use Rattle.clap.specs.Faults.{built_fault}
use Rattle.clap.specs.Simple.{argument_words, built, entered, names_of}
use Rattle.clap.specs.Walk.{nothing_held, stop_after}
use Rattle.tcam_cli.specs.declared.own_texts.Topic.{Topic}
use Rattle.tcam_cli.specs.CommandLine.{job_by_faults, job_of, tcam_app, tcam_top, topic_in}
use Rattle.tcam_cli.specs.Headline.{Job}
use Rattle.explain_cli.specs.declared.top.Words.{Words}
use Rattle.explain_cli.specs.Promise.{IsOfTable, IsReadAs, explained_words}

-- ---- what words ask for

-- by those behind the name
abbrev job_with : Option Topic → List (List ℕ) → Job
job_with topic words =
    job_by_faults topic (built_fault (built tcam_app) nothing_held words)
    (entered (built tcam_app) (stop_after (built tcam_app).top.rules (names_of (built tcam_app)) words))

behind-name : (words : List (List ℕ)) → argument_words tcam_app words ≡ drop 1 words
unfolding tcam_app tcam_top
behind-name words = refl

by-others : (words : List (List ℕ)) → job_of words ≡ job_with (topic_in words) (drop 1 words)
by-others words = ap (job_with (topic_in words)) (behind-name words)

pub own-job : (words : List (List ℕ)) → job_of (drop 1 words) ≡ job_of (explained_words words)
own-job [] = refl
own-job (name ∷ []) = by-others [] ∙ sym (by-others (name ∷ []))
own-job (name ∷ own ∷ words) = by-others (own ∷ words) ∙ sym (by-others (name ∷ words))

-- ---- who reads them

pub own-table : (words : List (List ℕ)) → IsOfTable (explained_words words) → IsOfTable (drop 1 words)
own-table [] is = is
own-table (name ∷ []) is = is
own-table (name ∷ own ∷ words) is = is

-- ---- the words themselves

pub mapped-rest : {A B : Type 0} (f : A → B) (words : List A) → map f (drop 1 words) ≡ drop 1 (map f words)
mapped-rest f [] = refl
mapped-rest f (word ∷ words) = refl

pub mapped-none : {A B : Type 0} (f : A → B) (words : List A) → (length words == 0) ≡ true → map f words ≡ drop 1 (map f words)
mapped-none f [] is = refl
mapped-none f (word ∷ words) is = let none : length (word ∷ words) ≡ 0 = eqb-true (length (word ∷ words)) 0 is in absurd (omega arith)

-- ---- what they are read as

pub read-own : (own words : List (List ℕ)) (kind : Words) → own ≡ drop 1 words → (IsOfTable own → IsReadAs (job_of own) kind) → IsOfTable (explained_words words)
    → IsReadAs (job_of (explained_words words)) kind
read-own own words kind is by table =
    subst (λ (job : Job). IsReadAs job kind) (ap job_of is ∙ own-job words) (by (subst (λ (w : List (List ℕ)). IsOfTable w) (sym is) (own-table words table)))
