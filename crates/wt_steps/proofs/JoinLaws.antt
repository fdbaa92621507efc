-- Where no condition is a Join, nothing rests on one.
use Rattle.std.proofs.Common.{◌≡◌, ◌⊎◌, Bool, List, inl, inr, refl, sym, subst}
use Rattle.wt_bag.specs.Choices.{Has}
use Rattle.wt_form.specs.declared.form.Expr.{Expr}
use Rattle.wt_form.specs.Trees.{Terms, Conds, no_conds, cond_then, Cond, Pred, Join, is_in, not_in}
use Rattle.wt_form.specs.Parts.{conds_append, conds_list}
use Rattle.wt_form.specs.Known.{Known}
use Rattle.wt_form.specs.Facts.{Joins}
use Rattle.wt_form.specs.Views.{OneTerm}
use Rattle.wt_places.specs.Gained.{Gained}
use Rattle.wt_places.proofs.GainedLaws.{gained_none}
use Rattle.wt_steps.specs.Joins.{IsJoin, HasJoin, ByJoins}

joins_is : (e e' : Expr) (c : Cond) → Joins e e' c → IsJoin c
joins_is e e' (Join x y) h = tt
joins_is e e' (Pred p x) h = absurd h
joins_is e e' (is_in x g ts) h = absurd h
joins_is e e' (not_in x g ts) h = absurd h

join_between : (b : Conds) (c : Cond) (a : Conds) → IsJoin c → HasJoin (conds_append b (cond_then c a))
join_between no_conds c a h = inl h
join_between (cond_then d b) c a h = inr (join_between b c a h)

join_among : (cs : Conds) (c : Cond) → Has c (conds_list cs) → IsJoin c → HasJoin cs
join_among no_conds c h j = absurd h
join_among (cond_then d cs) c (inl e) j = inl (subst IsJoin e j)
join_among (cond_then d cs) c (inr h) j = inr (join_among cs c h j)

rests_on_join : (K : Known) (nested : Bool) (t : OneTerm) (us : Terms) → ByJoins K nested t.ranges t.conds t.pieces us → HasJoin t.conds
rests_on_join K nested t us (inl (inl r)) = subst HasJoin (sym r.place.is) (join_between r.place.before r.join r.place.after (joins_is _ _ r.join r.joins))
rests_on_join K nested t us (inl (inr r)) = elim r.joined.4 [
  | inl h ↦ join_among t.conds h.0 h.1 (joins_is _ _ h.0 h.2)
  | inr h ↦ join_among t.conds h.0 h.4 (joins_is _ _ h.0 h.6)
]
rests_on_join K nested t us (inr r) = subst HasJoin (sym r.place.is) (join_between r.place.before r.join r.place.after (joins_is _ _ r.join r.joins))

pub gained_without_join : (K : Known) (nested : Bool) (t : OneTerm) (old : List Terms) → (HasJoin t.conds → ⊥) → Gained old old (ByJoins K nested t.ranges t.conds t.pieces)
gained_without_join K nested t old none = gained_none old old (ByJoins K nested t.ranges t.conds t.pieces) refl (λ us h. none (rests_on_join K nested t us h))
