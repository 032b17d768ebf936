-- Each line of an input is accounted for.
use Rattle.std.proofs.Common.{◌≡◌, ◌+◌, ◌++◌, ◌∷◌, ℕ, Bool, true, false, List, [], refl, sym, ap, ◌∙◌, subst, append_assoc, arith}
use Rattle.std.specs.Prelude.{map}
use Rattle.std.specs.List.{concat}
use Rattle.script_lines.specs.Lines.{NumberedLine, LinesEnd}
use Rattle.import_lines.specs.Import.{Telling, LineTold, SaidBy, UnsaidBy, ImportedScript, onto_script, stops_at, left_out_line, line_script, script_end, script_from, IsSaid, IsLeftOut, bytes_of_fate, left_out_of, known_after, EndsBehind, IsAccounted, AllAreAccounted}

-- a line more at the front, said
more-said : (Known : Type 0) → (telling : Telling Known) (leave_out : Bool) (known : Known) (left_out : ℕ) (line : NumberedLine) (lines : List NumberedLine) (last : LinesEnd) (bytes : List ℕ) (script : ImportedScript)
    → telling.told known line.text ≡ SaidBy bytes → IsAccounted telling leave_out (telling.behind known line.text) left_out lines last script
    → IsAccounted telling leave_out known left_out (line ∷ lines) last (onto_script bytes script)
more-said Known telling leave_out known left_out line lines last bytes script same is = record {
  fates = IsSaid line bytes ∷ is.fates;
  rest = is.rest;
  end = is.end;
  have = record { are = (same, is.have.are); lines_are = ap (λ l. line ∷ l) is.have.lines_are };
  text = ap (λ t. bytes ++ t) is.text ∙ sym (append_assoc bytes (concat (map bytes_of_fate is.fates)) is.end.text);
  same_end = is.same_end;
  ends = is.ends;
}

-- or left out
more-left : (Known : Type 0) → (telling : Telling Known) (known : Known) (left_out : ℕ) (line : NumberedLine) (lines : List NumberedLine) (last : LinesEnd) (why : List ℕ) (script : ImportedScript)
    → telling.told known line.text ≡ UnsaidBy why → IsAccounted telling true known (left_out + 1) lines last script
    → IsAccounted telling true known left_out (line ∷ lines) last (onto_script (left_out_line line.number why) script)
more-left Known telling known left_out line lines last why script same is =
    let count : (left_out + 1) + left_out_of is.fates ≡ left_out + (left_out_of is.fates + 1) = omega arith in
    record {
      fates = IsLeftOut line why ∷ is.fates;
      rest = is.rest;
      end = is.end;
      have = record { are = ((refl, same), is.have.are); lines_are = ap (λ l. line ∷ l) is.have.lines_are };
      text = ap (λ t. left_out_line line.number why ++ t) is.text ∙ sym (append_assoc (left_out_line line.number why) (concat (map bytes_of_fate is.fates)) is.end.text);
      same_end = is.same_end;
      ends = subst (λ n. EndsBehind Known telling true (known_after Known telling known is.fates) n is.rest last is.end) count is.ends;
    }

-- the line at which a script stops
stops-here : (Known : Type 0) → (telling : Telling Known) (known : Known) (left_out : ℕ) (line : NumberedLine) (lines : List NumberedLine) (last : LinesEnd) (why : List ℕ)
    → telling.told known line.text ≡ UnsaidBy why → IsAccounted telling false known left_out (line ∷ lines) last (stops_at line.number why)
stops-here Known telling known left_out line lines last why same = record {
  fates = [];
  rest = line ∷ lines;
  end = stops_at line.number why;
  have = record { are = tt; lines_are = refl };
  text = refl;
  same_end = refl;
  ends = (refl, (why, same, refl));
}

-- a line, by what it comes to
one-line : (Known : Type 0) → (telling : Telling Known) (leave_out : Bool) (known : Known) (left_out : ℕ) (line : NumberedLine) (lines : List NumberedLine) (last : LinesEnd) (told : LineTold) (said passed : ImportedScript)
    → telling.told known line.text ≡ told → IsAccounted telling leave_out (telling.behind known line.text) left_out lines last said → IsAccounted telling leave_out known (left_out + 1) lines last passed
    → IsAccounted telling leave_out known left_out (line ∷ lines) last (line_script leave_out line told said passed)
one-line Known telling leave_out known left_out line lines last (SaidBy bytes) said passed same s p = more-said Known telling leave_out known left_out line lines last bytes said same s
one-line Known telling true known left_out line lines last (UnsaidBy why) said passed same s p = more-left Known telling known left_out line lines last why passed same p
one-line Known telling false known left_out line lines last (UnsaidBy why) said passed same s p = stops-here Known telling known left_out line lines last why same

pub all-are-accounted : (Known : Type 0) → (telling : Telling Known) → AllAreAccounted Known telling
all-are-accounted Known telling leave_out known left_out [] last =
    let none : left_out ≡ left_out + 0 = omega arith in
    record {
      fates = [];
      rest = [];
      end = script_end telling known left_out last;
      have = record { are = tt; lines_are = refl };
      text = refl;
      same_end = refl;
      ends = ap (λ n. script_end telling known n last) none;
    }
all-are-accounted Known telling leave_out known left_out (line ∷ lines) last =
    one-line Known telling leave_out known left_out line lines last (telling.told known line.text)
    (script_from telling leave_out (telling.behind known line.text) left_out lines last) (script_from telling leave_out known (left_out + 1) lines last) refl
    (all-are-accounted Known telling leave_out (telling.behind known line.text) left_out lines last) (all-are-accounted Known telling leave_out known (left_out + 1) lines last)
