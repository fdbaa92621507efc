-- Atoms read one after another.
use Rattle.std.proofs.Common.{◌≡◌, ℕ, zero, suc, ◌+◌, ◌-◌, ◌<◌, ◌≤◌, List, [], ◌∷◌, ◌++◌, length, Some, None, refl, sym, ap, ◌∙◌, arith, append_assoc, append-nil}
use Rattle.wt_rule_text.specs.declared.parsed.ParsedAtom.{ParsedAtom}
use Rattle.wt_rule_text.specs.Reading.{spaced_atom, more_atoms, before, then_more}

-- the atoms kept after so many, with those that follow at a place, are the first ones with all that follow there
pub record IsSoFar (line : List ℕ) (from : ℕ) (first : List ParsedAtom) (count at : ℕ) (kept : List ParsedAtom) : Type 0 where
  pub atoms : kept ++ (more_atoms (length line - count) line at).0 ≡ first ++ (more_atoms (length line) line from).0
  pub end : (more_atoms (length line - count) line at).1 ≡ (more_atoms (length line) line from).1

pub at_first : (line : List ℕ) (from : ℕ) (first : List ParsedAtom) → IsSoFar line from first 0 from first
at_first line from first = let e : length line - 0 ≡ length line = omega arith in record { atoms = rw e refl; end = rw e refl }

one_more : (most : ℕ) (line : List ℕ) (at : ℕ) (a : ParsedAtom × ℕ) → spaced_atom line at ≡ Some a → more_atoms (suc most) line at ≡ before a.0 (more_atoms most line a.1)
one_more most line at a is = ap (λ o. then_more o at (more_atoms most line)) is

pub no_more : (most : ℕ) (line : List ℕ) (at : ℕ) → spaced_atom line at ≡ None → more_atoms most line at ≡ ([], at)
no_more zero line at is = refl
no_more (suc most) line at is = ap (λ o. then_more o at (more_atoms most line)) is

pub next_kept : (line : List ℕ) (from : ℕ) (first kept new : List ParsedAtom) (count at : ℕ) (a : ParsedAtom × ℕ) → count < length line → spaced_atom line at ≡ Some a →
    new ≡ kept ++ a.0 ∷ [] → IsSoFar line from first count at kept → IsSoFar line from first (count + 1) a.1 new
next_kept line from first kept new count at a l is more so_far =
    let e : length line - count ≡ suc (length line - (count + 1)) = omega arith in
    let next : more_atoms (length line - count) line at ≡ before a.0 (more_atoms (length line - (count + 1)) line a.1) = ap (λ n. more_atoms n line at) e ∙ one_more (length line - (count + 1)) line at a is in
    record {
      atoms = ap (λ l. l ++ (more_atoms (length line - (count + 1)) line a.1).0) more ∙ append_assoc kept (a.0 ∷ []) _ ∙ ap (λ m. kept ++ m.0) (sym next) ∙ so_far.atoms;
      end = ap (λ m. m.1) (sym next) ∙ so_far.end;
    }

pub stopped : (line : List ℕ) (from : ℕ) (first kept : List ParsedAtom) (count at : ℕ) → spaced_atom line at ≡ None → IsSoFar line from first count at kept →
    (kept ≡ first ++ (more_atoms (length line) line from).0) × (at ≡ (more_atoms (length line) line from).1)
stopped line from first kept count at is so_far =
    let none = no_more (length line - count) line at is in
    (sym (append-nil kept) ∙ ap (λ m. kept ++ m.0) (sym none) ∙ so_far.atoms, ap (λ m. m.1) (sym none) ∙ so_far.end)

pub at_last : (line : List ℕ) (from : ℕ) (first kept : List ParsedAtom) (count at : ℕ) → length line ≤ count → IsSoFar line from first count at kept →
    (kept ≡ first ++ (more_atoms (length line) line from).0) × (at ≡ (more_atoms (length line) line from).1)
at_last line from first kept count at l so_far =
    let e : length line - count ≡ 0 = omega arith in
    let none : more_atoms (length line - count) line at ≡ ([], at) = ap (λ n. more_atoms n line at) e in
    (sym (append-nil kept) ∙ ap (λ m. kept ++ m.0) (sym none) ∙ so_far.atoms, ap (λ m. m.1) (sym none) ∙ so_far.end)
