-- Which symbols one and two bytes are, and that no longer one stands there.
use Rattle.std.proofs.Common.{◌≡◌, ℕ, ◌≤◌, Bool, true, false, inl, inr, List, [], ◌∷◌, length, get_or, refl, ap, sym, subst, ◌∙◌, arith, Option, Some, None}
use Rattle.std.specs.Prelude.{◌==◌, ◌&&◌}
use Rattle.std.proofs.lemmas.Bool.{cond_both}
use Rattle.wt_lex.specs.declared.token.Sym.{Sym}
use Rattle.wt_lex.specs.declared.token.Sym.TheVariants as symbols
use Rattle.wt_lex.specs.Fronts.{long_symbol, short_symbol}
use Rattle.wt_lex.specs.Spelling.{symbol_written, IsMark, IsLongest}
use Rattle.wt_lex.proofs.Splits.{quote_is}

and_parts : (s t : Bool) → (s && t) ≡ true → (s ≡ true) × (t ≡ true)
and_parts true t e = (refl, e)
and_parts false t e = absurd cc

two_are : (b c x y : ℕ) → (b == x && c == y) ≡ true → x ∷ y ∷ [] ≡ b ∷ c ∷ []
two_are b c x y h =
    let (e, f) = and_parts (b == x) (c == y) h in
    let same : b ≡ x = quote_is b x e in
    let other : c ≡ y = quote_is c y f in
    λ i. sym same i ∷ sym other i ∷ []

one_is : (b x : ℕ) → (b == x) ≡ true → x ∷ [] ≡ b ∷ []
one_is b x h = let same : b ≡ x = quote_is b x h in λ i. sym same i ∷ []

found : (t s : Sym) (w : List ℕ) → symbol_written t ≡ w → Some t ≡ Some s → symbol_written s ≡ w
found t s w h e = let same : t ≡ s = cc in ap symbol_written (sym same) ∙ h

pub long_written : (b c : ℕ) (s : Sym) → long_symbol b c ≡ Some s → symbol_written s ≡ b ∷ c ∷ []
long_written b c s =
    let P : Option Sym → Type 0 = λ r. r ≡ Some s → symbol_written s ≡ b ∷ c ∷ [] in
    cond_both (b == 60 && c == 62) _ _ P (λ h. found symbols.NotEq s _ (two_are b c 60 62 h))
    (λ _. cond_both (b == 33 && c == 61) _ _ P (λ h. found symbols.BangEq s _ (two_are b c 33 61 h))
    (λ _. cond_both (b == 60 && c == 61) _ _ P (λ h. found symbols.Le s _ (two_are b c 60 61 h))
    (λ _. cond_both (b == 62 && c == 61) _ _ P (λ h. found symbols.Ge s _ (two_are b c 62 61 h))
    (λ _. cond_both (b == 124 && c == 124) _ _ P (λ h. found symbols.Bars s _ (two_are b c 124 124 h))
    (λ _. cond_both (b == 58 && c == 58) _ _ P (λ h. found symbols.ColonColon s _ (two_are b c 58 58 h))
    (λ _ e. absurd cc))))))

pub short_written : (b : ℕ) (s : Sym) → short_symbol b ≡ Some s → symbol_written s ≡ b ∷ []
short_written b s =
    let P : Option Sym → Type 0 = λ r. r ≡ Some s → symbol_written s ≡ b ∷ [] in
    cond_both (b == 40) _ _ P (λ h. found symbols.Open s _ (one_is b 40 h))
    (λ _. cond_both (b == 41) _ _ P (λ h. found symbols.Close s _ (one_is b 41 h))
    (λ _. cond_both (b == 44) _ _ P (λ h. found symbols.Comma s _ (one_is b 44 h))
    (λ _. cond_both (b == 46) _ _ P (λ h. found symbols.Dot s _ (one_is b 46 h))
    (λ _. cond_both (b == 59) _ _ P (λ h. found symbols.Semi s _ (one_is b 59 h))
    (λ _. cond_both (b == 42) _ _ P (λ h. found symbols.Star s _ (one_is b 42 h))
    (λ _. cond_both (b == 61) _ _ P (λ h. found symbols.Eq s _ (one_is b 61 h))
    (λ _. cond_both (b == 60) _ _ P (λ h. found symbols.Lt s _ (one_is b 60 h))
    (λ _. cond_both (b == 62) _ _ P (λ h. found symbols.Gt s _ (one_is b 62 h))
    (λ _. cond_both (b == 43) _ _ P (λ h. found symbols.Plus s _ (one_is b 43 h))
    (λ _. cond_both (b == 45) _ _ P (λ h. found symbols.Minus s _ (one_is b 45 h))
    (λ _. cond_both (b == 47) _ _ P (λ h. found symbols.Slash s _ (one_is b 47 h))
    (λ _. cond_both (b == 37) _ _ P (λ h. found symbols.Percent s _ (one_is b 37 h))
    (λ _. cond_both (b == 58) _ _ P (λ h. found symbols.Colon s _ (one_is b 58 h))
    (λ _. cond_both (b == 63) _ _ P (λ h. found symbols.Question s _ (one_is b 63 h))
    (λ _. cond_both (b == 36) _ _ P (λ h. found symbols.Dollar s _ (one_is b 36 h))
    (λ _ e. absurd cc))))))))))))))))

abbrev long_of : List ℕ → Option Sym
long_of (b ∷ c ∷ []) = long_symbol b c
long_of _ = None

abbrev short_of : List ℕ → Option Sym
short_of (b ∷ []) = short_symbol b
short_of _ = None

pub long_found : (b c : ℕ) (s : Sym) → symbol_written s ≡ b ∷ c ∷ [] → long_symbol b c ≡ Some s
long_found b c symbols.Open e = absurd cc
long_found b c symbols.Close e = absurd cc
long_found b c symbols.Comma e = absurd cc
long_found b c symbols.Dot e = absurd cc
long_found b c symbols.Semi e = absurd cc
long_found b c symbols.Star e = absurd cc
long_found b c symbols.Eq e = absurd cc
long_found b c symbols.NotEq e = ap long_of (sym e)
long_found b c symbols.BangEq e = ap long_of (sym e)
long_found b c symbols.Lt e = absurd cc
long_found b c symbols.Le e = ap long_of (sym e)
long_found b c symbols.Gt e = absurd cc
long_found b c symbols.Ge e = ap long_of (sym e)
long_found b c symbols.Plus e = absurd cc
long_found b c symbols.Minus e = absurd cc
long_found b c symbols.Slash e = absurd cc
long_found b c symbols.Percent e = absurd cc
long_found b c symbols.Bars e = ap long_of (sym e)
long_found b c symbols.ColonColon e = ap long_of (sym e)
long_found b c symbols.Colon e = absurd cc
long_found b c symbols.Question e = absurd cc
long_found b c symbols.Dollar e = absurd cc

pub short_found : (b : ℕ) (s : Sym) → symbol_written s ≡ b ∷ [] → short_symbol b ≡ Some s
short_found b symbols.Open e = ap short_of (sym e)
short_found b symbols.Close e = ap short_of (sym e)
short_found b symbols.Comma e = ap short_of (sym e)
short_found b symbols.Dot e = ap short_of (sym e)
short_found b symbols.Semi e = ap short_of (sym e)
short_found b symbols.Star e = ap short_of (sym e)
short_found b symbols.Eq e = ap short_of (sym e)
short_found b symbols.NotEq e = absurd cc
short_found b symbols.BangEq e = absurd cc
short_found b symbols.Lt e = ap short_of (sym e)
short_found b symbols.Le e = absurd cc
short_found b symbols.Gt e = ap short_of (sym e)
short_found b symbols.Ge e = absurd cc
short_found b symbols.Plus e = ap short_of (sym e)
short_found b symbols.Minus e = ap short_of (sym e)
short_found b symbols.Slash e = ap short_of (sym e)
short_found b symbols.Percent e = ap short_of (sym e)
short_found b symbols.Bars e = absurd cc
short_found b symbols.ColonColon e = absurd cc
short_found b symbols.Colon e = ap short_of (sym e)
short_found b symbols.Question e = ap short_of (sym e)
short_found b symbols.Dollar e = ap short_of (sym e)

-- no symbol is longer than two bytes, and none has the byte 0
pub at_most_two : (s : Sym) → length (symbol_written s) ≤ 2
at_most_two symbols.Open = omega arith
at_most_two symbols.Close = omega arith
at_most_two symbols.Comma = omega arith
at_most_two symbols.Dot = omega arith
at_most_two symbols.Semi = omega arith
at_most_two symbols.Star = omega arith
at_most_two symbols.Eq = omega arith
at_most_two symbols.NotEq = omega arith
at_most_two symbols.BangEq = omega arith
at_most_two symbols.Lt = omega arith
at_most_two symbols.Le = omega arith
at_most_two symbols.Gt = omega arith
at_most_two symbols.Ge = omega arith
at_most_two symbols.Plus = omega arith
at_most_two symbols.Minus = omega arith
at_most_two symbols.Slash = omega arith
at_most_two symbols.Percent = omega arith
at_most_two symbols.Bars = omega arith
at_most_two symbols.ColonColon = omega arith
at_most_two symbols.Colon = omega arith
at_most_two symbols.Question = omega arith
at_most_two symbols.Dollar = omega arith

no_zero : (s : Sym) (b : ℕ) → symbol_written s ≡ b ∷ 0 ∷ [] → ⊥
no_zero symbols.Open b e = omega (arith, ap length e)
no_zero symbols.Close b e = omega (arith, ap length e)
no_zero symbols.Comma b e = omega (arith, ap length e)
no_zero symbols.Dot b e = omega (arith, ap length e)
no_zero symbols.Semi b e = omega (arith, ap length e)
no_zero symbols.Star b e = omega (arith, ap length e)
no_zero symbols.Eq b e = omega (arith, ap length e)
no_zero symbols.NotEq b e = omega (arith, ap (λ l. get_or l 1 0) e)
no_zero symbols.BangEq b e = omega (arith, ap (λ l. get_or l 1 0) e)
no_zero symbols.Lt b e = omega (arith, ap length e)
no_zero symbols.Le b e = omega (arith, ap (λ l. get_or l 1 0) e)
no_zero symbols.Gt b e = omega (arith, ap length e)
no_zero symbols.Ge b e = omega (arith, ap (λ l. get_or l 1 0) e)
no_zero symbols.Plus b e = omega (arith, ap length e)
no_zero symbols.Minus b e = omega (arith, ap length e)
no_zero symbols.Slash b e = omega (arith, ap length e)
no_zero symbols.Percent b e = omega (arith, ap length e)
no_zero symbols.Bars b e = omega (arith, ap (λ l. get_or l 1 0) e)
no_zero symbols.ColonColon b e = omega (arith, ap (λ l. get_or l 1 0) e)
no_zero symbols.Colon b e = omega (arith, ap length e)
no_zero symbols.Question b e = omega (arith, ap length e)
no_zero symbols.Dollar b e = omega (arith, ap length e)

pub long_zero : (b : ℕ) → long_symbol b 0 ≡ None
long_zero b = by (long_symbol b 0) refl
  where
    by : (r : Option Sym) → long_symbol b 0 ≡ r → r ≡ None
    by None e = refl
    by (Some s) e = absurd (no_zero s b (long_written b 0 s e))

pub longest_two : (b c : ℕ) (rest : List ℕ) → IsLongest (b ∷ c ∷ []) rest
longest_two b c rest d z e (inl (s, w)) = omega (arith, at_most_two s, ap length w)
longest_two b c rest d z e (inr (inl w)) = cc
longest_two b c rest d z e (inr (inr w)) = cc

pub longest_one : (b c : ℕ) (z : List ℕ) → long_symbol b c ≡ None → (b ≡ 45 → c ≡ 45 → ⊥) → (b ≡ 47 → c ≡ 42 → ⊥) → IsLongest (b ∷ []) (c ∷ z)
longest_one b c z none line block d y e = by (let f : c ≡ d = cc in f)
  where
    mark : IsMark (b ∷ c ∷ []) → ⊥
    mark (inl (s, w)) = let g = sym none ∙ long_found b c s w in cc
    mark (inr (inl w)) = let f : b ≡ 45 = cc in let g : c ≡ 45 = cc in line f g
    mark (inr (inr w)) = let f : b ≡ 47 = cc in let g : c ≡ 42 = cc in block f g

    by : c ≡ d → IsMark (b ∷ d ∷ []) → ⊥
    by f m = mark (subst (λ x. IsMark (b ∷ x ∷ [])) (sym f) m)

pub longest_end : (w : List ℕ) → IsLongest w []
longest_end w c z e m = cc

pub no_mark : (b : ℕ) → short_symbol b ≡ None → IsMark (b ∷ []) → ⊥
no_mark b none (inl (s, w)) = let g = sym none ∙ short_found b s w in cc
no_mark b none (inr (inl w)) = cc
no_mark b none (inr (inr w)) = cc
