use Rattle.std.proofs.Common.{◌≡◌, ◌∙◌, ◌++◌, ◌∷◌, [], drop, ap, sym, subst, arith, append_assoc}
use Rattle.std.specs.Prelude.{map}
use Rattle.wt_lex.specs.declared.front.Front.TheVariants.{Item, Spoiled}
use Rattle.wt_lex.specs.Fronts.{front, len_of}
use Rattle.wt_lex.specs.Stored.{StandsIn}
use Rattle.wt_lex.specs.Stored.{shown}
use Rattle.wt_lex.specs.Tokens.{is_closed, made, token}
use Rattle.wt_lex.proofs.Standing.{item_stands, spoiled_stands}
use Rattle.wt_lex.proofs.tokens.step.Goals as goal

pub returns-in_ok-add-in-Item-clause-ok : goal.returns-in_ok-add-in-Item-clause-ok
returns-in_ok-add-in-Item-clause-ok c =
    let text = c.args.text.now in
    let before = map (shown text) c.args.stored.now.items in
    let is : Item c.in-Item.kind c.in-Item.n ≡ front (drop c.args.at text) = c.in-Item.ensures.value ∙ ap front c.split_at.ensures.back in
    let stands = subst (StandsIn text) (sym c.token.ensures) (item_stands text c.args.at c.in-Item.n c.in-Item.kind c.requires.within is) in (
      ap len_of is,
      ap is_closed (sym is),
      c.in_ok-add-in-Item.ensures.shown text stands ∙ ap (λ t. before ++ t ∷ []) c.token.ensures ∙ ap (λ f. before ++ made c.args.at f) is,
      c.in-Item.ensures.within.0,
      omega (arith, c.in-Item.ensures.within.1, c.split_at.ensures.back_len),
    )

pub returns-in_ok-add-in-Spoiled-2-clause-ok : goal.returns-in_ok-add-in-Spoiled-2-clause-ok
returns-in_ok-add-in-Spoiled-2-clause-ok c =
    let text = c.args.text.now in
    let before = map (shown text) c.args.stored.now.items in
    let is : Spoiled c.in-Spoiled.kind c.in-Spoiled.n ≡ front (drop c.args.at text) = c.in-Spoiled.ensures.value ∙ ap front c.split_at.ensures.back in
    let stands = subst (StandsIn text) (sym c.token-in-Spoiled.ensures) (spoiled_stands text c.args.at c.in-Spoiled.n c.in-Spoiled.kind c.requires.within is) in
    let bad = subst (StandsIn text) (sym c.token-in-Spoiled-2.ensures) tt in (
      ap len_of is,
      ap is_closed (sym is),
      c.in_ok-add-in-Spoiled-2.ensures.shown text bad
          ∙ ap (λ l. l ++ c.token-in-Spoiled-2.result ∷ []) (c.in_ok-add-in-Spoiled.ensures.shown text stands)
          ∙ append_assoc before (c.token-in-Spoiled.result ∷ []) (c.token-in-Spoiled-2.result ∷ [])
          ∙ ap (λ t. before ++ t ∷ c.token-in-Spoiled-2.result ∷ []) c.token-in-Spoiled.ensures
          ∙ ap (λ t. before ++ token c.in-Spoiled.kind c.args.at c.in-Spoiled.n ∷ t ∷ []) c.token-in-Spoiled-2.ensures
          ∙ ap (λ f. before ++ made c.args.at f) is,
      omega arith,
      omega (arith, c.in-Spoiled.ensures.within.1, c.split_at.ensures.back_len),
    )
