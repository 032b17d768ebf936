-- What a command line is answered, by what its words are read as.
use Rattle.std.proofs.Common.{◌≡◌, ◌≢◌, inl, inr, ℕ, List, refl, sym, ◌∙◌, subst}
use Rattle.explain_router.specs.declared.RouterWanted.{RouterWanted}
use Rattle.script_runs.specs.declared.Status.{Status}
use Rattle.script_runs.specs.declared.Status.TheVariants as status
use Rattle.tcam_cli.specs.Headline.{Job, NoJob, Tells, Reads, Makes, Verifies}
use Rattle.explain.specs.declared.explainer.Wanted.{Wanted}
use Rattle.explain.specs.Explained.{IsRightOf}
use Rattle.explain_cli.specs.declared.top.Words.{Words}
use Rattle.explain_cli.specs.declared.top.Words.TheVariants as read_as
use Rattle.explain_cli.specs.Promise.{EndsWith, IsAnswerOf, IsReadAs, wanted_of}

-- the words of a script
pub script-answers : (job : Job) (kind : Words) (wanted : Wanted) (bytes after : List ℕ) (told : Status) → kind ≡ read_as.Script wanted → IsReadAs job kind → IsRightOf wanted bytes after told → IsAnswerOf job bytes after told
script-answers NoJob kind wanted bytes after told is reads right = let bad : read_as.Script wanted ≡ read_as.Wrong = sym is ∙ reads in absurd (cc)
script-answers (Tells own) kind wanted bytes after told is reads right = let bad : read_as.Script wanted ≡ read_as.Other = sym is ∙ reads in absurd (cc)
script-answers (Reads setting) kind wanted bytes after told is reads right =
    let both : read_as.Script wanted ≡ read_as.Script (wanted_of setting) = sym is ∙ reads in
    let same : wanted ≡ wanted_of setting = cc in
    subst (λ (w : Wanted). IsRightOf w bytes after told) same right
script-answers (Makes setting seed rules batches) kind wanted bytes after told is reads right = let bad : read_as.Script wanted ≡ read_as.Other = sym is ∙ reads in absurd (cc)
script-answers Verifies kind wanted bytes after told is reads right = let bad : read_as.Script wanted ≡ read_as.Other = sym is ∙ reads in absurd (cc)

-- those of another command line
pub other-answers : (job : Job) (kind : Words) (bytes after : List ℕ) (told : Status) → kind ≡ read_as.Other → IsReadAs job kind → EndsWith status.Done told → IsAnswerOf job bytes after told
other-answers NoJob kind bytes after told is reads ends = let bad : read_as.Other ≡ read_as.Wrong = sym is ∙ reads in absurd (cc)
other-answers (Tells own) kind bytes after told is reads ends = ends
other-answers (Reads setting) kind bytes after told is reads ends = let bad : read_as.Other ≡ read_as.Script (wanted_of setting) = sym is ∙ reads in absurd (cc)
other-answers (Makes setting seed rules batches) kind bytes after told is reads ends = ends
other-answers Verifies kind bytes after told is reads ends = ends

-- words that are no command line
pub wrong-answers : (job : Job) (kind : Words) (bytes after : List ℕ) (told : Status) → kind ≡ read_as.Wrong → IsReadAs job kind → EndsWith status.Script told → IsAnswerOf job bytes after told
wrong-answers NoJob kind bytes after told is reads ends = ends
wrong-answers (Tells own) kind bytes after told is reads ends = let bad : read_as.Wrong ≡ read_as.Other = sym is ∙ reads in absurd (cc)
wrong-answers (Reads setting) kind bytes after told is reads ends = let bad : read_as.Wrong ≡ read_as.Script (wanted_of setting) = sym is ∙ reads in absurd (cc)
wrong-answers (Makes setting seed rules batches) kind bytes after told is reads ends = let bad : read_as.Wrong ≡ read_as.Other = sym is ∙ reads in absurd (cc)
wrong-answers Verifies kind bytes after told is reads ends = let bad : read_as.Wrong ≡ read_as.Other = sym is ∙ reads in absurd (cc)

-- those of no command over one table are no answer of its reader
pub never-help : (job : Job) (kind : Words) → kind ≡ read_as.Help → IsReadAs job kind → ⊥
never-help NoJob kind is reads = let bad : read_as.Help ≡ read_as.Wrong = sym is ∙ reads in cc
never-help (Tells own) kind is reads = let bad : read_as.Help ≡ read_as.Other = sym is ∙ reads in cc
never-help (Reads setting) kind is reads = let bad : read_as.Help ≡ read_as.Script (wanted_of setting) = sym is ∙ reads in cc
never-help (Makes setting seed rules batches) kind is reads = let bad : read_as.Help ≡ read_as.Other = sym is ∙ reads in cc
never-help Verifies kind is reads = let bad : read_as.Help ≡ read_as.Other = sym is ∙ reads in cc

pub never-router : (job : Job) (kind : Words) (wanted : RouterWanted) → kind ≡ read_as.Router wanted → IsReadAs job kind → ⊥
never-router NoJob kind wanted is reads = let bad : read_as.Router wanted ≡ read_as.Wrong = sym is ∙ reads in cc
never-router (Tells own) kind wanted is reads = let bad : read_as.Router wanted ≡ read_as.Other = sym is ∙ reads in cc
never-router (Reads setting) kind wanted is reads = let bad : read_as.Router wanted ≡ read_as.Script (wanted_of setting) = sym is ∙ reads in cc
never-router (Makes setting seed rules batches) kind wanted is reads = let bad : read_as.Router wanted ≡ read_as.Other = sym is ∙ reads in cc
never-router Verifies kind wanted is reads = let bad : read_as.Router wanted ≡ read_as.Other = sym is ∙ reads in cc

-- memory was wanting
pub memory-answers : (job : Job) (bytes after : List ℕ) → IsAnswerOf job bytes after status.Memory
memory-answers NoJob bytes after = inr (inr refl)
memory-answers (Tells own) bytes after = inr (inr refl)
memory-answers (Reads setting) bytes after = tt
memory-answers (Makes setting seed rules batches) bytes after = inr (inr refl)
memory-answers Verifies bytes after = inr (inr refl)

-- no source was read
pub ends-unread : (last told : Status) → last ≢ status.ReadFault → EndsWith last told → told ≢ status.ReadFault
ends-unread last told other (inl is) = λ e. other (sym is ∙ e)
ends-unread last told other (inr (inl is)) = λ e. let bad : status.WriteFault ≡ status.ReadFault = sym is ∙ e in cc
ends-unread last told other (inr (inr is)) = λ e. let bad : status.Memory ≡ status.ReadFault = sym is ∙ e in cc
