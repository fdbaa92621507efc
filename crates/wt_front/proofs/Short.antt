-- No reserved word has one letter.
use Rattle.std.proofs.Common.{◌≡◌, ℕ, ◌-◌, ◌<◌, ◌≤◌, Bool, true, false, List, [], ◌∷◌, length, drop, None, refl, ap, sym, ◌∙◌, arith}
use Rattle.std.specs.Prelude.{◌&&◌, nat_le}
use Rattle.std.specs.List.{find, list_all}
use Rattle.std.proofs.lemmas.Bool.Decides.{nat_tests}
use Rattle.std.proofs.lemmas.List.{length-map, length-take}
use Rattle.std.proofs.lemmas.Slice.Eq.{bytes_eq-Decides}
use Rattle.std.specs.Char.{to_ascii_lowercase}
use Rattle.wt_lex.specs.declared.token.Token.{Token}
use Rattle.wt_lex.specs.declared.token.TokenKind.TheVariants as kinds
use Rattle.wt_lex.specs.declared.words.Word.{Word}
use Rattle.wt_lex.specs.Names.{folded, is_folded, spelled, word_by, keyword}
use Rattle.wt_lex.specs.Words.{spelling, all_words}
use Rattle.wt_lex.proofs.Reserving.{lower}
use Rattle.wt_reading.specs.Lexemes.{kind_by, lexeme}
use Rattle.wt_reading.specs.declared.lexeme.Kind.TheVariants.{Name}

none_found : (p q : Word → Bool) → ((w : Word) → p w ≡ true → q w ≡ true → ⊥) → (ws : List Word) → list_all q ws ≡ true → find p ws ≡ None
none_found p q h [] all = refl
none_found p q h (w ∷ ws) all = by (p w) refl (q w) refl (none_found p q h ws)
  where
    by : (s : Bool) → p w ≡ s → (t : Bool) → q w ≡ t → (list_all q ws ≡ true → find p ws ≡ None) → find p (w ∷ ws) ≡ None
    by true e true f ih = absurd (h w e f)
    by false e true f ih = rw e (ih (sym (ap (λ b. b && list_all q ws) f) ∙ all))
    by s e false f ih = let z : false ≡ true = sym (ap (λ b. b && list_all q ws) f) ∙ all in absurd cc

-- no reserved word is spelled so shortly
none_short : (word : List ℕ) → length word < 2 → find (λ w. is_folded word (spelling w)) all_words ≡ None
none_short word short = none_found (λ w. is_folded word (spelling w)) (λ w. nat_le 2 (length (spelling w))) clash all_words refl
  where
    clash : (w : Word) → is_folded word (spelling w) ≡ true → nat_le 2 (length (spelling w)) ≡ true → ⊥
    clash w e f =
        let same : folded word ≡ spelling w = (bytes_eq-Decides (folded word) (folded (spelling w))).0 e ∙ lower w in
        let long : length word ≡ length (spelling w) = sym (length-map word to_ascii_lowercase) ∙ ap length same in
        let least : 2 ≤ length (spelling w) = grind (arith, nat_tests, f) in
        omega (arith, short, long, least)

pub short_word : (bytes : List ℕ) (t : Token) → t.kind ≡ kinds.Word → t.end - t.start < 2 → lexeme bytes t ≡ record { kind = Name; token = t }
unfolding lexeme
short_word bytes t word short =
    let few : length (spelled bytes t) < 2 = omega (arith, short, length-take (t.end - t.start) (drop t.start bytes)) in
    let none : keyword bytes t ≡ None = ap (λ k. find (λ w. word_by k (spelled bytes t) (spelling w)) all_words) word ∙ none_short (spelled bytes t) few in
    (λ i. record { kind = kind_by (word i) (none i); token = t })
