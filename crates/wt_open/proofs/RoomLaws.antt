-- The variables of a term and of a term inside one of its ranges have room together.
use Rattle.std.proofs.Common.{ℕ, zero, suc, ◌+◌, ◌-◌, ◌^◌, ◌<◌, ◌≤◌, ◌≡◌, List, [], ◌∷◌, length, sym, subst, arith}
use Rattle.wt_bag.specs.Bags.{Each}
use Rattle.wt_bag.specs.Choices.{At}
use Rattle.wt_form.specs.declared.form.Expr.{Expr}
use Rattle.wt_form.specs.declared.form.Expr.TheVariants.{Of, Null as NullOf}
use Rattle.wt_form.specs.Trees.{Terms, no_terms, term_then, Ranges, no_ranges, range_then, FormRange, Rel, distinct_of, Conds, no_conds, cond_then, Cond, Pred, Join, is_in, not_in}
use Rattle.wt_form.specs.Parts.{one_term, ranges_count, ranges_list}
use Rattle.wt_form.specs.Closed.{IsWithin, VariablesExist, ExistInRanges, ExistInRange, ExistInConds, ExistInCond}
use Rattle.wt_form.specs.Weights.{terms_size, ranges_size, range_size}
use Rattle.wt_open.specs.Opens.{TermsRoom, RangeRoom}

within_more : (n m : ℕ) → n ≤ m → (x : Expr) → IsWithin n x → IsWithin m x
within_more n m l (Of v i c) h = omega (arith, l, h)
within_more n m l (NullOf r c) h = tt

each_more : (n m : ℕ) → n ≤ m → (xs : List Expr) → Each (IsWithin n) xs → Each (IsWithin m) xs
each_more n m l [] h = tt
each_more n m l (x ∷ xs) h = (within_more n m l x h.0, each_more n m l xs h.1)

cond_more : (n m : ℕ) → n ≤ m → (c : Cond) → ExistInCond n c → ExistInCond m c
cond_more n m l (Pred p x) h = within_more n m l x h
cond_more n m l (Join x y) h = (within_more n m l x h.0, within_more n m l y h.1)
cond_more n m l (is_in x k ts) h = (within_more n m l x h.0, h.1)
cond_more n m l (not_in x k ts) h = (within_more n m l x h.0, h.1)

conds_more : (n m : ℕ) → n ≤ m → (cs : Conds) → ExistInConds n cs → ExistInConds m cs
conds_more n m l no_conds h = tt
conds_more n m l (cond_then c cs) h = (cond_more n m l c h.0, conds_more n m l cs h.1)

size_above : (r : FormRange) → 1 ≤ range_size r
size_above (Rel r) = omega arith
size_above (distinct_of h ts) = omega arith

count_size : (rs : Ranges) → ranges_count rs ≤ ranges_size rs
count_size no_ranges = omega arith
count_size (range_then r rs) = let l = size_above r in let m = count_size rs in omega (arith, l, m)

module _ (n : ℕ) (cs : Conds) (ps : List Expr) (outer : ExistInConds n cs) (pieces : Each (IsWithin n) ps) where
  terms_room : (k m : ℕ) (ts : Terms) → VariablesExist ts → n ≤ k + 1 + m → k + 1 + terms_size ts + m < 2 ^ 32 → TermsRoom k cs ps ts
  terms_room k m no_terms h l s = tt
  terms_room k m (term_then inner conds qs ts) h l s =
      let c = count_size inner in
      let low : n ≤ 2 ^ 32 - ranges_count inner = omega (arith, l, s, c) in
      let up : ranges_count inner ≤ 2 ^ 32 - k = omega (arith, l, s, c) in
      record {
        at = omega (arith, l, s, c);
        count = omega (arith, l, s, c);
        outer_conds = conds_more n (2 ^ 32 - ranges_count inner) low cs outer;
        outer_pieces = each_more n (2 ^ 32 - ranges_count inner) low ps pieces;
        inner_conds = conds_more (ranges_count inner) (2 ^ 32 - k) up conds h.0.1;
        inner_pieces = each_more (ranges_count inner) (2 ^ 32 - k) up qs h.0.2;
      }

  range_room : (k m : ℕ) (r : FormRange) → ExistInRange r → n ≤ k + 1 + m → k + range_size r + m < 2 ^ 32 → RangeRoom cs ps k r
  range_room k m (Rel r) h l s = tt
  range_room k m (distinct_of g ts) h l s = terms_room k m ts h l (omega (arith, s))

  rooms_from : (k : ℕ) (rs : Ranges) → ExistInRanges rs → n ≤ k + ranges_count rs → k + ranges_size rs < 2 ^ 32 → (j : ℕ) → j < length (ranges_list rs) → At (RangeRoom cs ps (k + j)) j (ranges_list rs)
  rooms_from k no_ranges h l s j m = let bad : ⊥ = omega (arith, m) in absurd bad
  rooms_from k (range_then r rs) h l s zero m =
      let c = count_size rs in
      subst (λ z. RangeRoom cs ps z r) (let e : k ≡ k + 0 = omega arith in e) (range_room k (ranges_size rs) r h.0 (omega (arith, l, c)) (omega (arith, s)))
  rooms_from k (range_then r rs) h l s (suc j) m =
      let c = size_above r in
      subst (λ z. At (RangeRoom cs ps z) j (ranges_list rs)) (let e : suc k + j ≡ k + suc j = omega arith in e) (rooms_from (suc k) rs h.1 (omega (arith, l)) (omega (arith, s, c)) j (omega (arith, m)))

-- each variable of a term that may be opened has room
pub rooms : (rs : Ranges) (cs : Conds) (ps : List Expr) (gs : List FormRange) (n : ℕ) → gs ≡ ranges_list rs → length gs ≡ n → VariablesExist (one_term rs cs ps) → terms_size (one_term rs cs ps) < 2 ^ 32 → (j : ℕ) → j < n → At (RangeRoom cs ps j) j gs
rooms rs cs ps gs n e len h s j l =
    let m = subst (λ z. length z ≡ n) e len in
    let at = rooms_from (ranges_count rs) cs ps h.0.1 h.0.2 0 rs h.0.0 (omega arith) (omega (arith, s)) j (omega (arith, l, m)) in
    subst (λ z. At (RangeRoom cs ps j) j z) (sym e) (subst (λ z. At (RangeRoom cs ps z) j (ranges_list rs)) (let q : 0 + j ≡ j = omega arith in q) at)
