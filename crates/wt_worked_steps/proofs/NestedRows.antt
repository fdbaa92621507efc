-- The step that opens a variable over distinct rows, and the one that drops a repeated term, on small terms.
use Rattle.std.specs.Prelude.{Some, None}
use Rattle.std.proofs.Common.{◌≡◌, ℕ, zero, suc, ◌<◌, Bool, true, false, List, [], ◌∷◌, map, refl, sym, subst, inl, inr, arith}
use Rattle.wt_bag.specs.Choices.{At}
use Rattle.wt_symbol.specs.declared.head.Part.{Part}
use Rattle.wt_symbol.specs.declared.head.PartCols.TheVariants.{Whole}
use Rattle.wt_form.specs.declared.form.Expr.{Expr}
use Rattle.wt_form.specs.declared.form.Expr.TheVariants.{Of}
use Rattle.wt_form.specs.Trees.{Terms, no_terms, FormRange, Rel, distinct_of, Ranges, no_ranges, range_then, Conds, no_conds, Cond}
use Rattle.wt_form.specs.Parts.{one_term, ranges_list, ranges_count, expr_up}
use Rattle.wt_form.specs.Known.{Known}
use Rattle.wt_form.specs.Places.{list_rows}
use Rattle.wt_form.specs.Facts.{by_relation, Determined, by_whole_row, by_columns, by_join, by_parts}
use Rattle.wt_form.specs.Opening.{expr_opened, PiecesOpened, AllDetermined, Opened}
use Rattle.wt_form.specs.TwoTerms.{Twins}
use Rattle.wt_form.specs.Worked.{known, list, one_row, two_rows, joined}
use Rattle.wt_form.proofs.WorkedRows.{no_opening}
use Rattle.wt_worked_steps.specs.Shapes.{part, whole_part, match, distinct_values, one_distinct, both_rows}
use Rattle.wt_worked_steps.proofs.Inverting.{conflict, only_range}
use Rattle.wt_worked_steps.proofs.JoinRows.{no_pieces}

-- the one variable of a term, at the place where it is asked
one_determined : (K : Known) (rs : List FormRange) (cs : List Cond) (ps : List Expr) → Determined K rs cs ps 0 → (u : ℕ) → u < 1 → Determined K rs cs ps u
one_determined K rs cs ps d zero l = d
one_determined K rs cs ps d (suc u) l = let bad : ⊥ = omega (arith, l) in absurd bad

two_determined : (K : Known) (rs : List FormRange) (cs : List Cond) (ps : List Expr) → Determined K rs cs ps 0 → Determined K rs cs ps 1 → (u : ℕ) → u < 2 → Determined K rs cs ps u
two_determined K rs cs ps d e zero l = d
two_determined K rs cs ps d e (suc zero) l = e
two_determined K rs cs ps d e (suc (suc u)) l = let bad : ⊥ = omega (arith, l) in absurd bad

by_list : (rs : List FormRange) (cs : List Cond) → At (λ range. range ≡ Rel 0) 0 rs → Determined (known true true false) rs cs (list 0 0 ∷ []) 0
by_list rs cs at = by_columns {r = 0} {c = 0} {d = 0} at refl (inl refl) refl (by_relation {r = 0} {d = 0} at refl refl)

pub opened_by_list : Opened (known true true false) false (one_distinct (list_rows 0 0)) no_conds (list 0 0 ∷ []) (one_term one_row no_conds (list 0 0 ∷ []))
opened_by_list = record {
  before = no_ranges;
  after = no_ranges;
  head = part 0 0 ∷ [];
  inner = one_row;
  conds = no_conds;
  pieces = list 0 0 ∷ [];
  is = refl;
  allowed = inr (one_determined (known true true false) (ranges_list one_row) [] (list 0 0 ∷ []) (by_list (ranges_list one_row) [] refl));
  cs' = no_conds;
  ps' = list 0 0 ∷ [];
  conds_opened = refl;
  pieces_opened = (refl, refl);
  gives = refl;
}

pub opened_by_whole_row : Opened (known true true false) false (range_then (distinct_of (whole_part 0 ∷ []) (one_term one_row no_conds (Of 0 0 Whole ∷ []))) no_ranges) no_conds (list 0 1 ∷ []) (one_term one_row no_conds (list 0 1 ∷ []))
opened_by_whole_row = record {
  before = no_ranges;
  after = no_ranges;
  head = whole_part 0 ∷ [];
  inner = one_row;
  conds = no_conds;
  pieces = Of 0 0 Whole ∷ [];
  is = refl;
  allowed = inr (one_determined (known true true false) (ranges_list one_row) [] (Of 0 0 Whole ∷ []) (by_whole_row {r = 0} {c = 0} refl refl (inl refl) (by_relation {r = 0} {d = 0} refl refl refl)));
  cs' = no_conds;
  ps' = list 0 1 ∷ [];
  conds_opened = refl;
  pieces_opened = (refl, refl);
  gives = refl;
}

pub opened_by_join : Opened (known true true false) false (one_distinct (one_term two_rows joined (list 0 0 ∷ []))) no_conds (list 0 0 ∷ []) (one_term two_rows joined (list 0 0 ∷ []))
opened_by_join = record {
  before = no_ranges;
  after = no_ranges;
  head = part 0 0 ∷ [];
  inner = two_rows;
  conds = joined;
  pieces = list 0 0 ∷ [];
  is = refl;
  allowed = inr (two_determined (known true true false) (ranges_list two_rows) (match ∷ []) (list 0 0 ∷ []) held
      (by_join {w = 0} {r = 0} {c = 0} {c' = 0} (list 0 0) match refl refl refl (inl refl) (inr (refl, refl)) refl (λ e. let bad : ⊥ = omega (arith, e) in bad) held));
  cs' = no_conds;
  ps' = list 0 0 ∷ [];
  conds_opened = refl;
  pieces_opened = (refl, refl);
  gives = refl;
}
  where
    held : Determined (known true true false) (ranges_list two_rows) (match ∷ []) (list 0 0 ∷ []) 0
    held = by_list (ranges_list two_rows) (match ∷ []) refl

pub opened_inside : Opened (known false false false) true (one_distinct (list_rows 0 0)) no_conds (list 0 0 ∷ []) (one_term one_row no_conds (list 0 0 ∷ []))
opened_inside = record {
  before = no_ranges;
  after = no_ranges;
  head = part 0 0 ∷ [];
  inner = one_row;
  conds = no_conds;
  pieces = list 0 0 ∷ [];
  is = refl;
  allowed = inl refl;
  cs' = no_conds;
  ps' = list 0 0 ∷ [];
  conds_opened = refl;
  pieces_opened = (refl, refl);
  gives = refl;
}

-- what a variable over distinct rows of one term is over
opened_term : (h h' : List Part) (rs rs' : Ranges) (cs cs' : Conds) (ps ps' : List Expr) → distinct_of h (one_term rs cs ps) ≡ distinct_of h' (one_term rs' cs' ps') → (h ≡ h') × (rs ≡ rs') × (cs ≡ cs') × (ps ≡ ps')
opened_term h h' rs rs' cs cs' ps ps' e = ((let z : h ≡ h' = cc in z), (let z : rs ≡ rs' = cc in z), (let z : cs ≡ cs' = cc in z), (let z : ps ≡ ps' = cc in z))

-- a term that has to be determined, at the top
not_opened : (u n f : Bool) (us : Terms) → (Determined (known u n f) (Rel 0 ∷ []) [] (list 0 0 ∷ []) 0 → ⊥) → Opened (known u n f) false (one_distinct (list_rows 0 0)) no_conds (list 0 0 ∷ []) us → ⊥
not_opened u n f us none s = elim s.allowed [
  | inl e ↦ conflict e
  | inr all ↦ let term = opened_term (part 0 0 ∷ []) s.head one_row s.inner no_conds s.conds (list 0 0 ∷ []) s.pieces (only_range (distinct_values (list_rows 0 0)) (distinct_of s.head (one_term s.inner s.conds s.pieces)) s.before s.after s.is).0 in
      let here : AllDetermined (known u n f) one_row no_conds (list 0 0 ∷ []) =
      subst (λ ps. AllDetermined (known u n f) one_row no_conds ps) (sym term.3) (subst (λ cs. AllDetermined (known u n f) one_row cs s.pieces) (sym term.2) (subst (λ rs. AllDetermined (known u n f) rs s.conds s.pieces) (sym term.1) all)) in
      none (here 0 (omega arith))
]

pub not_unique_stays : (us : Terms) → Opened (known false true true) false (one_distinct (list_rows 0 0)) no_conds (list 0 0 ∷ []) us → ⊥
not_unique_stays us s = not_opened false true true us none s
  where
    none : Determined (known false true true) (Rel 0 ∷ []) [] (list 0 0 ∷ []) 0 → ⊥
    none (by_whole_row at u h n) = conflict u
    none (by_columns at u h w n) = conflict u
    none (by_join e q at u a h j o d w) = conflict u
    none (by_parts h ts at ps) = let bad : Rel 0 ≡ distinct_of h ts = at in cc

pub unique_of_null_stays : (us : Terms) → Opened (known true false true) false (one_distinct (list_rows 0 0)) no_conds (list 0 0 ∷ []) us → ⊥
unique_of_null_stays us s = not_opened true false true us no_opening s

pub two_terms_stay : (us : Terms) → Opened (known true true true) true (one_distinct both_rows) no_conds (list 0 0 ∷ []) us → ⊥
two_terms_stay us s = two s.head s.inner s.conds s.pieces (only_range (distinct_values both_rows) (distinct_of s.head (one_term s.inner s.conds s.pieces)) s.before s.after s.is).0
  where
    two : (h : List Part) (rs : Ranges) (cs : Conds) (ps : List Expr) → distinct_values both_rows ≡ distinct_of h (one_term rs cs ps) → ⊥
    two h rs cs ps e = let bad : list_rows 0 0 ≡ no_terms = cc in cc

-- list 1 of a variable that was opened
Cut : ℕ → ℕ → List Part → List Expr → Expr → Type 0
Cut at n head pieces y = expr_opened (record { at = at; n = n; head = head; pieces = map (expr_up at) pieces }) (list 0 1) ≡ Some y

no_cut : (n : ℕ) (y : Expr) → Cut 0 n (part 0 0 ∷ []) (list 0 2 ∷ []) y → ⊥
unfolding Cut
no_cut n y e = let bad : None ≡ Some y = e in cc

pub list_that_is_not_held_stays : (us : Terms) → Opened (known true true true) true (one_distinct (list_rows 0 2)) no_conds (list 0 1 ∷ []) us → ⊥
unfolding Cut
list_that_is_not_held_stays us s = go s.ps' s.pieces_opened
  where
    range : (distinct_values (list_rows 0 2) ≡ distinct_of s.head (one_term s.inner s.conds s.pieces)) × (ranges_count s.before ≡ 0)
    range = only_range (distinct_values (list_rows 0 2)) (distinct_of s.head (one_term s.inner s.conds s.pieces)) s.before s.after s.is

    term : (part 0 0 ∷ [] ≡ s.head) × (one_row ≡ s.inner) × (no_conds ≡ s.conds) × (list 0 2 ∷ [] ≡ s.pieces)
    term = opened_term (part 0 0 ∷ []) s.head one_row s.inner no_conds s.conds (list 0 2 ∷ []) s.pieces range.0

    go : (ps' : List Expr) → PiecesOpened (record { at = ranges_count s.before; n = ranges_count s.inner; head = s.head; pieces = map (expr_up (ranges_count s.before)) s.pieces }) (list 0 1 ∷ []) ps' → ⊥
    go [] o = o
    go (y ∷ ys) o =
        let cut : Cut (ranges_count s.before) (ranges_count s.inner) s.head s.pieces y = o.0 in
        no_cut (ranges_count s.inner) y (subst (λ ps. Cut 0 (ranges_count s.inner) (part 0 0 ∷ []) ps y) (sym term.3)
        (subst (λ h. Cut 0 (ranges_count s.inner) h s.pieces y) (sym term.0) (subst (λ k. Cut k (ranges_count s.inner) s.head s.pieces y) range.1 cut)))

pub twin_goes_inside : Twins (known false false false) true one_row no_conds (list 0 0 ∷ []) one_row no_conds (list 0 0 ∷ [])
twin_goes_inside = record { ks = 0 ∷ []; inside = refl; same = record { ranges = (refl, (refl, refl)); conds = refl; pieces = refl } }

pub twin_stays_at_the_top : Twins (known true true true) false one_row no_conds (list 0 0 ∷ []) one_row no_conds (list 0 0 ∷ []) → ⊥
twin_stays_at_the_top s = conflict s.inside

pub other_piece_stays : Twins (known true true true) true one_row no_conds (list 0 0 ∷ []) one_row no_conds (list 0 1 ∷ []) → ⊥
other_piece_stays s = no_pieces _ s.same.pieces
