-- The first token that is refused wherever it stands.
use Rattle.std.proofs.Common.{◌≡◌, ℕ, zero, suc, ◌+◌, List, [], ◌∷◌, drop, refl, ap, sym, ◌∙◌, ◌≤◌, length, arith, Option, Some, None}
use Rattle.std.specs.Prelude.{slice_get}
use Rattle.wt_lex.specs.declared.token.LexFault.{LexFault}
use Rattle.wt_lex.specs.declared.token.Token.{Token}
use Rattle.wt_lex.specs.declared.token.TokenKind.{TokenKind}
use Rattle.wt_lex.specs.declared.token.TokenKind.TheVariants as kinds
use Rattle.wt_ddl.specs.Refusals.{Fault}
use Rattle.wt_ddl.specs.Schemas.{odd_by, first_odd}

pub odd_here : (ts : List Token) (i : ℕ) (t : Token) → slice_get ts i ≡ Some t → first_odd (drop i ts) ≡ odd_by t.kind t.start (first_odd (drop (i + 1) ts))
odd_here [] i t h = absurd (cc)
odd_here (x ∷ xs) zero t h = let same : x ≡ t = cc in ap (λ (y : Token). odd_by y.kind y.start (first_odd xs)) same
odd_here (x ∷ xs) (suc i) t h =
    let e : suc i + 1 ≡ suc (i + 1) = omega arith in
    odd_here xs i t h ∙ ap (λ k. odd_by t.kind t.start (first_odd (drop k (x ∷ xs)))) (sym e)

pub not_odd : (k : TokenKind) (at : ℕ) (later : Option Fault) → ((f : LexFault) → k ≡ kinds.Odd f → ⊥) → odd_by k at later ≡ later
not_odd (kinds.Odd f) at later h = absurd (h f refl)
not_odd kinds.Word at later h = refl
not_odd kinds.Quoted at later h = refl
not_odd (kinds.Number n) at later h = refl
not_odd kinds.Text at later h = refl
not_odd (kinds.Symbol s) at later h = refl

pub odd_none : (ts : List Token) (i : ℕ) → length ts ≤ i → first_odd (drop i ts) ≡ None
odd_none [] zero h = refl
odd_none [] (suc i) h = refl
odd_none (t ∷ ts) zero h = absurd (omega arith)
odd_none (t ∷ ts) (suc i) h = odd_none ts i (omega arith)
