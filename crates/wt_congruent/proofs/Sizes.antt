-- Congruent forms have one size.
use Rattle.std.proofs.Common.{ℕ, zero, suc, ◌+◌, ◌<◌, ◌≡◌, List, [], ◌∷◌, refl, sym, ap, arith}
use Rattle.wt_bag.specs.Choices.{At, drop_at}
use Rattle.wt_form.specs.Trees.{Terms, no_terms, term_then, Ranges, no_ranges, range_then, FormRange, Rel, distinct_of, Conds, no_conds, cond_then, Cond, Pred, Join, is_in, not_in}
use Rattle.wt_form.specs.Parts.{terms_count, ranges_at, conds_at, terms_without, ranges_list, conds_list}
use Rattle.wt_form.specs.Known.{Known}
use Rattle.wt_form.specs.Congruent.{TermsSame, RangesSame, RangeSame, CondsSame, CondSame}
use Rattle.wt_form.specs.Weights.{terms_size, ranges_size, range_size, conds_size, cond_size}

abbrev pub summed : {X : Type 0} → (X → ℕ) → List X → ℕ
summed f [] = 0
summed f (x ∷ xs) = f x + summed f xs

pub taken : {X : Type 0} (f : X → ℕ) (P : X → Type 0) (j : ℕ) (xs : List X) → At P j xs → (x : X) × P x × (summed f xs ≡ f x + summed f (drop_at j xs))
taken f P j [] h = absurd h
taken f P zero (x ∷ xs) h = (x, h, refl)
taken f P (suc j) (x ∷ xs) h = let r = taken f P j xs h in let e = r.2 in (r.0, r.1, omega (arith, e))

ranges_summed : (rs : Ranges) → summed range_size (ranges_list rs) ≡ ranges_size rs
ranges_summed no_ranges = refl
ranges_summed (range_then r rs) = ap (λ n. range_size r + n) (ranges_summed rs)

conds_summed : (cs : Conds) → summed cond_size (conds_list cs) ≡ conds_size cs
conds_summed no_conds = refl
conds_summed (cond_then c cs) = ap (λ n. cond_size c + n) (conds_summed cs)

term_taken : (k : ℕ) (us : Terms) → k < terms_count us → terms_size us ≡ 1 + ranges_size (ranges_at k us) + conds_size (conds_at k us) + terms_size (terms_without k us)
term_taken k no_terms l = let bad : ⊥ = omega arith in absurd bad
term_taken zero (term_then rs cs ps us) l = refl
term_taken (suc k) (term_then rs cs ps us) l = let e = term_taken k us (omega arith) in omega (arith, e)

mutual
  pub same_size : (K : Known) (ts us : Terms) → TermsSame K ts us → terms_size ts ≡ terms_size us
  same_size K no_terms us h = ap terms_size (sym h)
  same_size K (term_then rs cs ps ts) us h =
      let a = same_ranges_size K h.1 rs (ranges_list (ranges_at h.0 us)) h.3 in
      let b = same_conds_size K h.1 cs (conds_list (conds_at h.0 us)) h.4 in
      let c = same_size K ts (terms_without h.0 us) h.6 in
      let d = term_taken h.0 us h.2 in
      let e = ranges_summed (ranges_at h.0 us) in
      let f = conds_summed (conds_at h.0 us) in
      omega (arith, a, b, c, d, e, f)

  same_ranges_size : (K : Known) (ks : List ℕ) (rs : Ranges) (gs : List FormRange) → RangesSame K ks rs gs → ranges_size rs ≡ summed range_size gs
  same_ranges_size K ks no_ranges gs h = ap (summed range_size) (sym h.1)
  same_ranges_size K [] (range_then r rs) gs h = absurd h
  same_ranges_size K (k ∷ ks) (range_then r rs) gs h =
      let t = taken range_size (RangeSame K r) k gs h.0 in
      let a = same_range_size K r t.0 t.1 in
      let b = same_ranges_size K ks rs (drop_at k gs) h.1 in
      let c = t.2 in
      omega (arith, a, b, c)

  same_range_size : (K : Known) (r s : FormRange) → RangeSame K r s → range_size r ≡ range_size s
  same_range_size K (Rel r) (Rel s) h = refl
  same_range_size K (Rel r) (distinct_of g us) h = absurd h
  same_range_size K (distinct_of g ts) (Rel s) h = absurd h
  same_range_size K (distinct_of g ts) (distinct_of g' us) h = ap (λ n. 1 + n) (same_size K ts us h.1)

  same_conds_size : (K : Known) (ks : List ℕ) (cs : Conds) (ds : List Cond) → CondsSame K ks cs ds → conds_size cs ≡ summed cond_size ds
  same_conds_size K ks no_conds ds h = ap (summed cond_size) (sym h)
  same_conds_size K ks (cond_then c cs) ds h =
      let t = taken cond_size (CondSame K ks c) h.0 ds h.1 in
      let a = same_cond_size K ks c t.0 t.1 in
      let b = same_conds_size K ks cs (drop_at h.0 ds) h.2 in
      let e = t.2 in
      omega (arith, a, b, e)

  same_cond_size : (K : Known) (ks : List ℕ) (c d : Cond) → CondSame K ks c d → cond_size c ≡ cond_size d
  same_cond_size K ks (Pred p x) (Pred q y) h = refl
  same_cond_size K ks (Pred p x) (Join v w) h = absurd h
  same_cond_size K ks (Pred p x) (is_in y g us) h = absurd h
  same_cond_size K ks (Pred p x) (not_in y g us) h = absurd h
  same_cond_size K ks (Join x z) (Pred q y) h = absurd h
  same_cond_size K ks (Join x z) (Join v w) h = refl
  same_cond_size K ks (Join x z) (is_in y g us) h = absurd h
  same_cond_size K ks (Join x z) (not_in y g us) h = absurd h
  same_cond_size K ks (is_in x g ts) (Pred q y) h = absurd h
  same_cond_size K ks (is_in x g ts) (Join v w) h = absurd h
  same_cond_size K ks (is_in x g ts) (is_in y g' us) h = ap (λ n. 1 + n) (same_size K ts us h.1)
  same_cond_size K ks (is_in x g ts) (not_in y g' us) h = absurd h
  same_cond_size K ks (not_in x g ts) (Pred q y) h = absurd h
  same_cond_size K ks (not_in x g ts) (Join v w) h = absurd h
  same_cond_size K ks (not_in x g ts) (is_in y g' us) h = absurd h
  same_cond_size K ks (not_in x g ts) (not_in y g' us) h = ap (λ n. 1 + n) (same_size K ts us h.1)
