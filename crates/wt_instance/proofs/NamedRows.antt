-- Rows with names: the test that compares them decides equality.
use Rattle.std.proofs.Common.{◌≡◌, ℕ, suc, ◌+◌, ◌<◌, Bool, true, false, cond, List, [], ◌∷◌, ◌++◌, filter, length, drop, get_or, length-append, append_assoc, refl, sym, ap, ◌∙◌, subst, arith}
use Rattle.std.specs.Prelude.{◌&&◌, ◌==◌}
use Rattle.std.specs.Bool.{Decides}
use Rattle.std.specs.List.{list_any}
use Rattle.std.proofs.lemmas.Grind.{common_steps}
use Rattle.std.proofs.lemmas.Slice.Eq.{slice_eq-Decides}
use Rattle.wt_bag.specs.Bags.{DecidesEquality, distinct}
use Rattle.wt_bag.proofs.Counting.{is_new, distinct_init, distinct_next}
use Rattle.wt_value.specs.declared.value.Value.{Value}
use Rattle.wt_value.specs.Values.{Tuple, value_same, row_matches}
use Rattle.wt_value.proofs.Comparing.{value_same-Decides}
use Rattle.wt_instance.specs.declared.named.Cell.{Cell}
use Rattle.wt_instance.specs.Rows.{Named, named_same, cell}

and_both : (b c : Bool) → (b && c) ≡ true → (b ≡ true) × (c ≡ true)
and_both true c h = (refl, h)
and_both false c h = cc

both_and : (b c : Bool) → b ≡ true → c ≡ true → (b && c) ≡ true
both_and true c h k = k
both_and false c h k = cc

same_number : (x y : ℕ) → (x == y) ≡ true → x ≡ y
same_number x y h = grind (arith, common_steps)

number_same : (x y : ℕ) → x ≡ y → (x == y) ≡ true
number_same x y h = grind (arith, common_steps)

cell_same : Cell → Cell → Bool
cell_same c d = ((c.column.leaf == d.column.leaf) && (c.column.number == d.column.number)) && value_same c.value d.value

same_parts : (r n s m : ℕ) (v w : Value) → r ≡ s → n ≡ m → v ≡ w → cell r n v ≡ cell s m w
same_parts r n s m v w e f g = rw (e, f, g) refl

cell_same-Decides : (c d : Cell) → Decides (cell_same c d) (c ≡ d)
unfolding cell_same
cell_same-Decides c d = (
  λ h.
      let parts = and_both _ (value_same c.value d.value) h in
      let names = and_both _ (c.column.number == d.column.number) parts.0 in
      same_parts c.column.leaf c.column.number d.column.leaf d.column.number c.value d.value (same_number _ _ names.0) (same_number _ _ names.1)
      ((value_same-Decides c.value d.value).0 parts.1),
  λ e.
      both_and _ _
      (both_and _ _ (number_same _ _ (ap (λ (x : Cell). x.column.leaf) e)) (number_same _ _ (ap (λ (x : Cell). x.column.number) e)))
      ((value_same-Decides c.value d.value).1 (ap (λ (x : Cell). x.value) e)),
)

pub named_same-Decides : (v w : Named) → Decides (named_same v w) (v ≡ w)
unfolding cell_same
named_same-Decides v w = slice_eq-Decides cell_same-Decides v w (named_same v w) refl

-- the test of rows with names decides equality
pub named_same_decides : DecidesEquality named_same
named_same_decides = record {
  sound = λ v w. (named_same-Decides v w).0;
  reflexive = λ v. (named_same-Decides v v).1 refl;
}

-- the start of a loop over the rows that gathers the distinct ones
pub distinct_begins : (kept rest items : List Named) → kept ≡ [] → rest ≡ items → kept ++ filter (is_new named_same named_same_decides kept) (distinct named_same rest) ≡ distinct named_same items
distinct_begins kept rest items e f = rw (e, f) (distinct_init named_same named_same_decides items)

drop_passed : (ys rest : List Named) → drop (length ys) (ys ++ rest) ≡ rest
drop_passed [] rest = refl
drop_passed (y ∷ ys) rest = drop_passed ys rest

drop_more : (ys rest : List Named) (x : Named) → drop (suc (length ys)) (ys ++ x ∷ rest) ≡ rest
drop_more [] rest x = refl
drop_more (y ∷ ys) rest x = drop_more ys rest x

get_passed : (ys rest : List Named) (x : Named) → x ≡ get_or (ys ++ x ∷ rest) (length ys) x
get_passed [] rest x = refl
get_passed (y ∷ ys) rest x = get_passed ys rest x

-- a row passes from those to come to those that were seen
pub passed_on : (ys old rest items : List Named) (x : Named) → old ≡ x ∷ rest → ys ++ old ≡ items → (ys ++ x ∷ []) ++ rest ≡ items
passed_on ys old rest items x e f = rw append_assoc (ap (λ (l : List Named). ys ++ l) (sym e) ∙ f)

-- one more turn of it
pub distinct_goes_on : (kept more ys old rest items : List Named) (x : Named) → old ≡ x ∷ rest → ys ++ old ≡ items → more ≡ cond (is_new named_same named_same_decides kept x) (kept ++ x ∷ []) kept →
    kept ++ filter (is_new named_same named_same_decides kept) (distinct named_same old) ≡ distinct named_same items → more ++ filter (is_new named_same named_same_decides more) (distinct named_same rest) ≡ distinct named_same items
distinct_goes_on kept more ys old rest items x e f h invariant =
    let whole : ys ++ x ∷ rest ≡ items = rw e at f in
    let place : x ≡ get_or items (length ys) x = subst (λ l. x ≡ get_or l (length ys) x) whole (get_passed ys rest x) in
    let within : length ys < length items = subst (λ (l : List Named). length ys < length l) whole (omega (arith, length-append ys (x ∷ rest))) in
    let here : drop (length ys) items ≡ old = subst (λ (l : List Named). drop (length ys) l ≡ old) f (drop_passed ys old) in
    let after : suc (length ys) ≡ length ys + 1 = omega arith in
    let next : drop (length ys + 1) items ≡ rest = subst (λ k. drop k items ≡ rest) after (subst (λ (l : List Named). drop (suc (length ys)) l ≡ rest) whole (drop_more ys rest x)) in
    let step = distinct_next named_same named_same_decides kept more items x (length ys) within place h (subst (λ (l : List Named). kept ++ filter (is_new named_same named_same_decides kept) (distinct named_same l) ≡ distinct named_same items) (sym here) invariant) in
    subst (λ (l : List Named). more ++ filter (is_new named_same named_same_decides more) (distinct named_same l) ≡ distinct named_same items) next step

-- one more turn of a loop that keeps the rows which pass
pub filter_goes_on : (p : Named → Bool) (b : Bool) (kept more old rest items : List Named) (x : Named) → old ≡ x ∷ rest → p x ≡ b → more ≡ cond b (kept ++ x ∷ []) kept →
    kept ++ filter p old ≡ filter p items → more ++ filter p rest ≡ filter p items
filter_goes_on p true kept more old rest items x e t m h = rw (m, append_assoc) (sym (ap (λ (l : List Named). kept ++ l) (kept_first e t)) ∙ h)
  where
    kept_first : old ≡ x ∷ rest → p x ≡ true → filter p old ≡ x ∷ filter p rest
    kept_first e t = rw (e, t) refl
filter_goes_on p false kept more old rest items x e t m h = rw m (sym (ap (λ (l : List Named). kept ++ l) (passed_over e t)) ∙ h)
  where
    passed_over : old ≡ x ∷ rest → p x ≡ false → filter p old ≡ filter p rest
    passed_over e t = rw (e, t) refl

-- a test of values that were picked
pub test_picked : (b test : Bool) (wanted picked : Tuple) (rows : List Tuple) → wanted ≡ picked → test ≡ list_any (λ row. row_matches wanted row) rows → test ≡ b → list_any (λ row. row_matches picked row) rows ≡ b
test_picked b test wanted picked rows e h t = ap (λ (w : Tuple). list_any (λ row. row_matches w row) rows) (sym e) ∙ sym h ∙ t
