-- The lines of one pair after another.
use Rattle.std.proofs.Common.{ℕ, ◌+◌, ◌-◌, ◌^◌, ◌≡◌, ◌<◌, ◌≤◌, min, List, [], ◌∷◌, ◌++◌, length, take, get_or, map, refl, sym, ap, ◌∙◌, subst, arith, add-one, append_assoc, append-nil}
use Rattle.std.proofs.Math.Seq.{take-suc}
use Rattle.std.proofs.lemmas.List.{map-append, take_all}
use Rattle.wt_symbol.specs.Sides.{PairTree, pair_of}
use Rattle.wt_symbol.specs.declared.side.Pair.{Pair}
use Rattle.wt_discover.specs.Files.{AreLines, AreAllLines, AreCounted}

-- the lines of some pairs, and then of others
pub all_lines_append : (k d : ℕ) (ps qs : List PairTree) (t u : List ℕ) (n m : ℕ) → AreAllLines k d ps t n → AreAllLines k d qs u m → AreAllLines k d (ps ++ qs) (t ++ u) (n + m)
all_lines_append k d [] qs t u n m a b =
    subst (λ x. AreAllLines k d qs x (n + m)) (sym (ap (λ x. x ++ u) a.0)) (subst (λ x. AreAllLines k d qs u x) (omega (arith, a.1)) b)
all_lines_append k d (p ∷ ps) qs t u n m a b =
    (a.0, a.1, a.2 ++ u, a.3 + m, a.4, all_lines_append k d ps qs a.2 u a.3 m a.5 b, ap (λ x. x ++ u) a.6 ∙ append_assoc a.0 a.2 u, omega (arith, a.7))

pub none_counted : (k d : ℕ) → AreCounted k d [] [] 0
none_counted k d = record { number = 0; are = (refl, refl); counted = refl }

one_pair : (k d : ℕ) (p : PairTree) (t : List ℕ) (n : ℕ) → AreLines p k d t n → AreAllLines k d (p ∷ []) t n
one_pair k d p t n a = (t, n, [], 0, a, (refl, refl), sym (append-nil t), omega arith)

pub counted_more : (k d : ℕ) (pairs : List Pair) (at : ℕ) (x e : Pair) (t u new : List ℕ) (n m count : ℕ) → at < length pairs → x ≡ get_or pairs at e → new ≡ t ++ u → count ≡ min (n + m) (2 ^ 64 - 1) →
    AreCounted k d (map pair_of (take at pairs)) t n → AreLines (pair_of x) k d u m → AreCounted k d (map pair_of (take (at + 1) pairs)) new count
counted_more k d pairs at x e t u new n m count l is new_is count_is before lines =
    let longer : take (at + 1) pairs ≡ take at pairs ++ x ∷ [] = rw (add-one, take-suc pairs at e l) (rw (← is) refl) in
    let trees : map pair_of (take (at + 1) pairs) ≡ map pair_of (take at pairs) ++ pair_of x ∷ [] = ap (map pair_of) longer ∙ map-append pair_of (take at pairs) (x ∷ []) in
    let both = all_lines_append k d (map pair_of (take at pairs)) (pair_of x ∷ []) t u before.number m before.are (one_pair k d (pair_of x) u m lines) in
    record {
      number = before.number + m;
      are = subst (λ ps. AreAllLines k d ps new (before.number + m)) (sym trees) (subst (λ y. AreAllLines k d (map pair_of (take at pairs) ++ pair_of x ∷ []) y (before.number + m)) (sym new_is) both);
      counted = count_is ∙ (let c = before.counted in omega arith);
    }

pub counted_all : (k d : ℕ) (pairs : List Pair) (at : ℕ) (t text : List ℕ) (n : ℕ) → length pairs ≤ at → text ≡ t → AreCounted k d (map pair_of (take at pairs)) t n → AreCounted k d (map pair_of pairs) text n
counted_all k d pairs at t text n l is counted =
    subst (λ y. AreCounted k d (map pair_of pairs) y n) (sym is) (subst (λ ps. AreCounted k d (map pair_of ps) t n) (take_all at pairs l) counted)
