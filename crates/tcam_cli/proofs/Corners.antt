-- Corners of where a script ends.
use Rattle.std.proofs.Common.{◌≡◌, ℕ, zero, suc, List, [], ◌∷◌, ◌++◌, replicate, length, refl}
use Rattle.std.specs.Prelude.{codes}
use Rattle.report_lines.specs.declared.Family.TheVariants.{Route, Acl}
use Rattle.script_runs.specs.Script.{ScriptEnd, Whole, FaultAt}
use Rattle.report_lines.specs.Sizes.{usual_sizes}
use Rattle.replay.specs.Script.{script_of}
use Rattle.tcam_cli.specs.Readings.{reading}
use Rattle.tcam_cli.specs.Headline.{script_so_far}

abbrev end-of : List ℕ → ScriptEnd
end-of bytes = (script_of usual_sizes (reading Route) bytes).last

skipped : end-of (32 ∷ 9 ∷ 13 ∷ 10 ∷ 9 ∷ codes "#x y" ++ 10 ∷ codes "commit" ++ 13 ∷ 10 ∷ []) ≡ Whole
skipped = refl

second : end-of (codes "commit" ++ 10 ∷ codes "route add 10.0.0.1/8 7" ++ 10 ∷ codes "frob") ≡ FaultAt 2 (codes "host bits")
second = refl

-- each family has commands of its own
other-route : (script_of usual_sizes (reading Acl) (codes "route add 10.0.0.0/8 7")).last ≡ FaultAt 1 (codes "unknown command")
other-route = refl

other-list : end-of (codes "acl del 7") ≡ FaultAt 1 (codes "unknown command")
other-list = refl

-- a grammar fault before a byte's fault, and behind it
before-byte : end-of (codes "frob" ++ 10 ∷ 200 ∷ []) ≡ FaultAt 1 (codes "unknown command")
before-byte = refl

same-line : end-of (codes "frob" ++ 200 ∷ 10 ∷ []) ≡ FaultAt 1 (codes "bad byte")
same-line = refl

full-and-return : end-of (replicate 512 32 ++ 13 ∷ 10 ∷ []) ≡ FaultAt 1 (codes "line too long")
full-and-return = refl

full-and-feed : end-of (replicate 512 32 ++ 10 ∷ []) ≡ Whole
full-and-feed = refl

-- what has come
cut : (script_so_far usual_sizes (reading Route) (codes "commit")).acts ≡ []
cut = refl

cut-last : (script_so_far usual_sizes (reading Route) (codes "commit")).last ≡ Whole
cut-last = refl

come : length (script_so_far usual_sizes (reading Route) (codes "commit" ++ 10 ∷ codes "com")).acts ≡ 1
come = refl

come-byte : (script_so_far usual_sizes (reading Route) (codes "commit" ++ 10 ∷ codes "com" ++ 200 ∷ [])).last ≡ FaultAt 2 (codes "bad byte")
come-byte = refl

-- so many probes
abbrev probes : ℕ → List ℕ
probes zero = []
probes (suc n) = codes "probe 0.0.0.0 10.1.2.3 0 0 0" ++ 10 ∷ probes n

sixteen : end-of (probes 16) ≡ Whole
sixteen = refl

seventeen : end-of (probes 17) ≡ FaultAt 17 (codes "too many probes")
seventeen = refl
