-- Chains of steps, each from what was read so far: what is read is a chain, and each chain is read.
use Rattle.std.proofs.Common.{◌≡◌, ℕ, suc, zero, ◌+◌, ◌-◌, ◌≤◌, ◌⊎◌, inl, inr, Bool, true, false, [], ◌∷◌, ◌++◌, length, drop, refl, ap, sym, ◌∙◌, arith, append_assoc, length-append, length-drop, Ok, Err, subst}
use Rattle.wt_ast.specs.Tree.{FromTree}
use Rattle.wt_reading.specs.declared.lexeme.Kind.{Kind}
use Rattle.wt_reading.specs.declared.lexeme.Kind.TheVariants.{End}
use Rattle.wt_reading.specs.declared.lexeme.Lexeme.{Lexeme}
use Rattle.wt_reading.specs.Lexemes.{Tokens, kind, at}
use Rattle.wt_reading.specs.Readings.{plus, onward, repeat}
use Rattle.wt_reading.specs.Sentences.{Seq}
use Rattle.wt_reading.proofs.Inversions.{chosen, ok_parts, plus_ok}
use Rattle.wt_reading.proofs.Took.{Took, took_none, took_then, took_as, drop_front}
use Rattle.wt_reading.proofs.Loops.{repeat_skip, repeat_stops, repeat_goes}
use Rattle.wt_grammar.specs.Reading.{Read}
use Rattle.wt_sentence.specs.Grammar.{Chain}

module _ (test : Kind → Bool) (none : test End ≡ false) (Step : FromTree → FromTree → Tokens → Type 0) (step : FromTree → Tokens → Read FromTree) where
  there : (ts : Tokens) → at test ts ≡ true → 1 ≤ length ts
  there [] h = absurd cc
  there (t ∷ ts) h = omega arith

  drop_less : (m : ℕ) (t : Lexeme) (ts : Tokens) → 1 ≤ m → drop (m - 1) ts ≡ drop m (t ∷ ts)
  drop_less zero t ts h = absurd (omega arith)
  drop_less (suc m) t ts h = let e : suc m - 1 ≡ m = omega arith in ap (λ k. drop k ts) e

  module _ (sound : (a : FromTree) (ts : Tokens) (f : FromTree) (n : ℕ) → test (kind ts) ≡ true → step a ts ≡ Ok (f, n) → Took (Step a f) ts n)
      (some : (a f : FromTree) (ts : Tokens) (n : ℕ) → Took (Step a f) ts n → 1 ≤ n) where
    pub chain_sound : (bound : ℕ) (a : FromTree) (ts : Tokens) (f : FromTree) (n : ℕ) → length ts ≤ bound → repeat (at test) step 0 a ts ≡ Ok (f, n)
        → (m : ℕ) × Took (Chain Step m a f) ts n
    unfolding repeat
    chain_sound bound a [] f n h e =
        let (same, s) = ok_parts a f 0 n e in
        (0, took_as (λ l. l ≡ []) (Chain Step 0 a f) [] 0 n (λ l z. (z, sym same)) s (took_none []))
    chain_sound zero a (t ∷ ts) f n h e = absurd (omega arith)
    chain_sound (suc bound) a (t ∷ ts) f n h e = by (λ b l g k size r. chain_sound bound b l g k size r) (chosen (test t.kind) _ _ _ e)
      where
        go : ((b : FromTree) (l : Tokens) (g : FromTree) (k : ℕ) → length l ≤ bound → repeat (at test) step 0 b l ≡ Ok (g, k) → (m : ℕ) × Took (Chain Step m b g) l k)
            → test t.kind ≡ true → (r : Read FromTree) → step a (t ∷ ts) ≡ r → onward r (λ b m. repeat (at test) step (m - 1) b ts) ≡ Ok (f, n) → (m : ℕ) × Took (Chain Step m a f) (t ∷ ts) n
        go ih begins (Err x) is e = absurd cc
        go ih begins (Ok x) is e =
            let (j, e', s) = plus_ok x.1 _ f n e in
            let took = sound a (t ∷ ts) x.0 x.1 begins is in
            let one : 1 ≤ x.1 = some a x.0 (t ∷ ts) x.1 took in
            let fits : length (drop x.1 (t ∷ ts)) ≤ bound = omega (arith, length-drop x.1 (t ∷ ts)) in
            let rest : repeat (at test) step 0 x.0 (drop x.1 (t ∷ ts)) ≡ Ok (f, j) =
            ap (repeat (at test) step 0 x.0) (sym (drop_less x.1 t ts one)) ∙ sym (repeat_skip (at test) step there (x.1 - 1) x.0 ts) ∙ e' in
            let (m, q) = ih x.0 (drop x.1 (t ∷ ts)) f j fits rest in (
              suc m,
              took_as (Seq (Step a x.0) (Chain Step m x.0 f)) (Chain Step (suc m) a f) (t ∷ ts) n n (λ l z. (x.0, z)) refl
                  (took_then (Step a x.0) (Chain Step m x.0 f) (t ∷ ts) x.1 j n took q s),
            )

        by : ((b : FromTree) (l : Tokens) (g : FromTree) (k : ℕ) → length l ≤ bound → repeat (at test) step 0 b l ≡ Ok (g, k) → (m : ℕ) × Took (Chain Step m b g) l k)
            → ((test t.kind ≡ true) × (onward (step a (t ∷ ts)) (λ b m. repeat (at test) step (m - 1) b ts) ≡ Ok (f, n)))
            ⊎ ((test t.kind ≡ false) × (◌≡◌ {A = Read FromTree} (Ok (a, 0)) (Ok (f, n)))) → (m : ℕ) × Took (Chain Step m a f) (t ∷ ts) n
        by ih (inl p) = go ih p.0 (step a (t ∷ ts)) refl p.1
        by ih (inr p) =
            let (same, s) = ok_parts a f 0 n p.1 in
            (0, took_as (λ l. l ≡ []) (Chain Step 0 a f) (t ∷ ts) 0 n (λ l z. (z, sym same)) s (took_none (t ∷ ts)))

  -- what may stand behind a step may stand where a step begins
  module _ (Follow : Kind → Type 0) (begins : (a f : FromTree) (b rest : Tokens) → Step a f b → test (kind (b ++ rest)) ≡ true)
      (reads : (a f : FromTree) (b rest : Tokens) → Step a f b → Follow (kind rest) → step a (b ++ rest) ≡ Ok (f, length b))
      (some : (a f : FromTree) (b : Tokens) → Step a f b → 1 ≤ length b) (next : (k : Kind) → test k ≡ true → Follow k) where
    pub chain_front : (m : ℕ) (a f : FromTree) (b rest : Tokens) → Chain Step m a f b → Follow (kind rest) → Follow (kind (b ++ rest))
    chain_front zero a f b rest (e, fe) z = subst (λ l. Follow (kind (l ++ rest))) (sym e) z
    chain_front (suc m) a f b rest (h, (c, l, e, s, q)) z =
        let whole = ap (λ y. y ++ rest) e ∙ append_assoc c l rest in
        next (kind (b ++ rest)) (ap (λ y. test (kind y)) whole ∙ begins a h c (l ++ rest) s)

    pub chain_reads : (m : ℕ) (a f : FromTree) (b rest : Tokens) → Chain Step m a f b → Follow (kind rest) → test (kind rest) ≡ false → repeat (at test) step 0 a (b ++ rest) ≡ Ok (f, length b)
    chain_reads zero a f b rest (e, fe) z stop =
        ap (λ l. repeat (at test) step 0 a (l ++ rest)) e ∙ repeat_stops (at test) step there a rest stop ∙ (λ i. Ok (sym fe i, length (sym e i)))
    chain_reads (suc m) a f b rest (h, (c, l, e, s, q)) z stop =
        let one = reads a h c (l ++ rest) s (chain_front m h f l rest q z) in
        let size : length c + length l ≡ length b = sym (ap length e ∙ length-append c l) in
        ap (repeat (at test) step 0 a) (ap (λ y. y ++ rest) e ∙ append_assoc c l rest)
        ∙ repeat_goes (at test) step there a h (length c) (c ++ (l ++ rest)) (begins a h c (l ++ rest) s) (some a h c s) one
        ∙ ap (λ y. plus (length c) (repeat (at test) step 0 h y)) (drop_front c (l ++ rest))
        ∙ ap (plus (length c)) (chain_reads m h f l rest q z stop)
        ∙ ap (λ n. Ok (f, n)) size
