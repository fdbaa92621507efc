-- What begins with a parenthesis, or with an operand, is read by the tokens that it takes and the one behind them.
use Rattle.std.proofs.Common.{◌≡◌, ℕ, suc, ◌+◌, ◌≤◌, ◌<◌, ◌⊎◌, inl, inr, Bool, true, false, List, [], ◌∷◌, ◌++◌, length, drop, take, refl, ap, sym, ◌∙◌, arith, Ok, Err, subst, nat_lt}
use Rattle.std.proofs.lemmas.Bool.{ltb-true, ltb-false}
use Rattle.std.proofs.lemmas.List.{take-append-le}
use Rattle.std.proofs.Math.Seq.{take-append_seam}
use Rattle.std.specs.Prelude.{if◌then◌else◌, ◌&&◌, ◌||◌}
use Rattle.wt_ast.specs.declared.tree.ColumnName.{ColumnName}
use Rattle.wt_ast.specs.Tree.{CondTree, all_of, any_of}
use Rattle.wt_grammar.specs.declared.fault.QueryFault.TheVariants as fault
use Rattle.wt_reading.specs.Lexemes.{Tokens, kind, place, is_open, is_close, is_comma}
use Rattle.wt_grammar.specs.Kinds.{is_and, is_or, is_not, is_select, is_in}
use Rattle.wt_grammar.specs.Refusals.{syntax}
use Rattle.wt_grammar.specs.Reading as read
use Rattle.wt_reading.specs.Readings.{plus, followed, list}
use Rattle.wt_grammar.specs.Reading.{Read, Refusal, Nest, refused, refusal, opens_tuple, in_follows}
use Rattle.wt_reading.specs.Sentences.{Listed, Parens}
use Rattle.wt_sentence.specs.Grammar.{Column}
use Rattle.wt_reading.proofs.Inversions.{held, chosen, ok_parts, followed_ok}
use Rattle.wt_reading.proofs.Took.{list_sound, within_at, behind_front}
use Rattle.wt_sentence.proofs.SoundParts.{column_sound}
use Rattle.wt_sentence.proofs.Tuples.{tuple_opens}
use Rattle.wt_refusal.specs.Refused.{NoTuple, looked}
use Rattle.wt_refusal.proofs.Local.{Agree, agree_front, agree_less, agree_behind, kind_front, LocalAt, Local, Gives, too_deep, refuses, refuses_any, refusal_at, barred_at, less_at, deep_at, as_at, test_at, behind_at, then_at, same_value}
use Rattle.wt_refusal.proofs.LocalParts.{run_local, by_place, column_local, operand_local}
use Rattle.wt_refusal.proofs.LocalTuples.{Closes, ColumnCloses, tuple_column}
use Rattle.wt_refusal.proofs.LocalConditions.{LocalBelow, listed_at, none_listed, subquery_at, after_operand_local}

module _ (end : ℕ) (bytes : List ℕ) (ns : Nest) (below : LocalBelow end bytes ns) where
  -- ---- tuples

  -- NOT IN behind a tuple is refused, whatever follows it
  not_in_tuple : Tokens → Read CondTree
  not_in_tuple us = if is_open (kind (drop 2 us)) && is_select (kind (drop 3 us)) then read.no end fault.NotInSubquery us else read.no end fault.Syntax us

  not_in_refused : (deep : Bool) (us : Tokens) → refuses deep (not_in_tuple us) ≡ true
  unfolding not_in_tuple
  not_in_refused deep us = by (is_open (kind (drop 2 us)) && is_select (kind (drop 3 us)))
    where
      by : (b : Bool) → refuses deep (if b then read.no end {A = CondTree} fault.NotInSubquery us else read.no end fault.Syntax us) ≡ true
      by true = refuses_any deep (refused fault.NotInSubquery) refl
      by false = refuses_any deep (refused fault.Syntax) refl

  not_in_local : Local end bytes 0 not_in_tuple
  unfolding not_in_tuple
  not_in_local ts = by (is_open (kind (drop 2 ts)) && is_select (kind (drop 3 ts))) refl
    where
      by : (b : Bool) → (is_open (kind (drop 2 ts)) && is_select (kind (drop 3 ts))) ≡ b → LocalAt end bytes 0 not_in_tuple ts
      by true e = barred_at end bytes not_in_tuple (refused fault.NotInSubquery) ts (rw e refl) (λ us a. not_in_refused false us)
      by false e = barred_at end bytes not_in_tuple (refused fault.Syntax) ts (rw e refl) (λ us a. not_in_refused false us)

  after_tuple_local : ns.room ≡ true → (at : ℕ) (cs : List ColumnName) → Local end bytes 0 (read.after_tuple end bytes ns at cs)
  unfolding read.after_tuple not_in_tuple
  after_tuple_local room at cs ts =
      test_at end bytes is_in 0 0
      (λ us. if is_open (kind (drop 1 us)) then (if is_select (kind (drop 2 us)) then plus 1 (read.subquery end bytes ns at cs (place end us) (drop 1 us)) else read.no end fault.Syntax (drop 2 us))
      else read.no end fault.Syntax (drop 1 us))
      not_in_tuple ts (omega arith)
      (λ s. less_at end bytes 0 1 _ ts (omega arith) (test_at end bytes is_open 1 1
      (λ us. if is_select (kind (drop 2 us)) then plus 1 (read.subquery end bytes ns at cs (place end us) (drop 1 us)) else read.no end fault.Syntax (drop 2 us)) (λ us. read.no end fault.Syntax (drop 1 us)) ts (omega arith)
      (λ s. less_at end bytes 1 2 _ ts (omega arith) (test_at end bytes is_select 2 2 (λ us. plus 1 (read.subquery end bytes ns at cs (place end us) (drop 1 us))) (λ us. read.no end fault.Syntax (drop 2 us)) ts (omega arith)
      (λ s. by_place end bytes 2 (λ p us. plus 1 (read.subquery end bytes ns at cs p (drop 1 us))) ts
      (behind_at end bytes 1 1 (read.subquery end bytes ns at cs (place end ts)) ts (subquery_at end bytes ns below at cs (place end ts) (drop 1 ts) room)))
      (λ s. refusal_at end bytes CondTree 2 2 (refused fault.Syntax) ts (omega arith))))
      (λ s. refusal_at end bytes CondTree 1 1 (refused fault.Syntax) ts (omega arith))))
      (λ s. not_in_local ts)

  tuple_at : ns.room ≡ true → (ts : Tokens) (c : ColumnName) (m : ℕ) → read.column end bytes (drop 1 ts) ≡ Ok (c, m) → LocalAt end bytes (1 + m) (read.tuple_in end bytes ns) ts
  unfolding read.tuple_in
  tuple_at room ts c m e =
      by_place end bytes (1 + m) (λ p us. followed us (read.listed end bytes ns (read.column end bytes) us) (λ cs rest. read.after_tuple end bytes ns p cs rest)) ts
      (then_at end bytes (1 + m) (read.listed end bytes ns (read.column end bytes)) (λ cs rest. read.after_tuple end bytes ns (place end ts) cs rest) ts
      (listed_at end bytes ns below m (read.column end bytes) ts room (column_local end bytes) (deep_at end bytes 0 m c (read.column end bytes) (drop 1 ts) e (column_local end bytes (drop 1 ts))))
      (λ cs n f. after_tuple_local room (place end ts) cs (drop n ts)))

  -- only IN goes on behind a tuple
  in_behind : (at : ℕ) (cs : List ColumnName) (l : Tokens) (x : CondTree) (n : ℕ) → read.after_tuple end bytes ns at cs l ≡ Ok (x, n) → is_in (kind l) ≡ true
  unfolding read.after_tuple not_in_tuple
  in_behind at cs l x n h = by (chosen (is_in (kind l)) _ (not_in_tuple l) _ h)
    where
      by : {r : Read CondTree} → ((is_in (kind l) ≡ true) × (r ≡ Ok (x, n))) ⊎ ((is_in (kind l) ≡ false) × (not_in_tuple l ≡ Ok (x, n))) → is_in (kind l) ≡ true
      by (inl p) = p.0
      by (inr p) = let z = ap (refuses true) (sym p.1) ∙ not_in_refused true l in absurd cc

  -- a tuple and its query are read only behind a parenthesis that opens a tuple
  tuple_read : (us : Tokens) (x : CondTree) (n : ℕ) → is_open (kind us) ≡ true → read.tuple_in end bytes ns us ≡ Ok (x, n) → (is_select (kind (drop 1 us)) ≡ false) × (opens_tuple us ≡ true)
  unfolding read.tuple_in read.listed
  tuple_read us x n opens h =
      let (cs, m, k, e, r, s) = followed_ok us (read.listed end bytes ns (read.column end bytes) us) (λ cs rest. read.after_tuple end bytes ns (place end us) cs rest) x n h in
      let (room, e') = held ns.room _ _ cs m e in
      let (a, b, f, l, p) = within_at (Listed (Column end bytes)) (list (read.column end bytes)) (λ _. refusal end syntax) us cs m opens
      (λ ys j g. list_sound (Column end bytes) (read.column end bytes) (column_sound end bytes) (drop 1 us) ys j g) e' in
      front cs a b f p (subst (λ z. is_in (kind z) ≡ true) (behind_front us a b m f l) (in_behind (place end us) cs (drop m us) x k r))
    where
      front : (cs : List ColumnName) (a b : Tokens) → us ≡ a ++ b → Parens (Listed (Column end bytes)) cs a → is_in (kind b) ≡ true → (is_select (kind (drop 1 us)) ≡ false) × (opens_tuple us ≡ true)
      front cs a b f p is =
          let (o, s, t) = tuple_opens end bytes cs a b p (ap (λ z. z || (is_not (kind b) && is_in (kind (drop 1 b)))) is) in
          (ap (λ l. is_select (kind (drop 1 l))) f ∙ s, ap opens_tuple f ∙ t)

  -- ---- what a parenthesis opens

  opened : Tokens → Read CondTree
  opened us = if is_select (kind (drop 1 us)) then read.no end fault.Subquery us else (if opens_tuple us then read.tuple_in end bytes ns us else ns.conds us)

  as_query : (us : Tokens) → is_select (kind (drop 1 us)) ≡ true → opened us ≡ read.no end fault.Subquery us
  unfolding opened
  as_query us s = rw s refl

  as_tuple : (us : Tokens) → is_select (kind (drop 1 us)) ≡ false → opens_tuple us ≡ true → opened us ≡ read.tuple_in end bytes ns us
  unfolding opened
  as_tuple us s t = rw (s, t) refl

  as_condition : (us : Tokens) → is_select (kind (drop 1 us)) ≡ false → opens_tuple us ≡ false → opened us ≡ ns.conds us
  unfolding opened
  as_condition us s t = rw (s, t) refl

  -- refused as whatever it is read as
  opened_refused : (deep : Bool) (us : Tokens) → (opens_tuple us ≡ true → refuses deep (read.tuple_in end bytes ns us) ≡ true) → (opens_tuple us ≡ false → refuses deep (ns.conds us) ≡ true) → refuses deep (opened us) ≡ true
  opened_refused deep us tuple condition = by (is_select (kind (drop 1 us))) refl (opens_tuple us) refl
    where
      by : (s : Bool) → is_select (kind (drop 1 us)) ≡ s → (t : Bool) → opens_tuple us ≡ t → refuses deep (opened us) ≡ true
      by true s t h = ap (refuses deep) (as_query us s) ∙ refuses_any deep (refused fault.Subquery) refl
      by false s true h = ap (refuses deep) (as_tuple us s h) ∙ tuple h
      by false s false h = ap (refuses deep) (as_condition us s h) ∙ condition h

  -- a column, and a comma or the closing parenthesis behind it, are no condition in parentheses
  column_refused : ns.room ≡ true → (us : Tokens) → (p : ColumnCloses end bytes (drop 1 us)) → ns.conds us ≡ Err (refused fault.Syntax, place end (drop p.1 (drop 1 us)))
  column_refused room us (c, m, e, closes) =
      let (a, b, f, l, p) = column_sound end bytes (drop 1 us) c m e in
      let rest = behind_front (drop 1 us) a b m f l in
      below.column_closed room us a b c m e f p (subst (λ l. Closes (kind l)) rest closes) ∙ ap (λ l. Err (refused fault.Syntax, place end l)) (sym rest)

  -- the second token is the same
  select_same : (b : Bool) (n : ℕ) (us ts : Tokens) → 1 ≤ n → Agree (suc n) us ts → is_select (kind (drop 1 ts)) ≡ b → is_select (kind (drop 1 us)) ≡ b
  select_same b n us ts h a e = ap is_select (agree_front kind kind_front 1 n us ts h a) ∙ e

  -- a query
  query_opened : (ts : Tokens) → is_select (kind (drop 1 ts)) ≡ true → LocalAt end bytes 0 opened ts
  query_opened ts s =
      less_at end bytes 0 1 opened ts (omega arith) (as_at end bytes 1 opened (read.no end fault.Subquery) ts (λ us a. as_query us (select_same true 1 us ts (omega arith) a s))
      (refusal_at end bytes CondTree 1 0 (refused fault.Subquery) ts (omega arith)))

  -- no level is left
  none_opened : ns.room ≡ false → (ts : Tokens) → LocalAt end bytes 0 opened ts
  unfolding read.tuple_in
  none_opened room ts = by (is_select (kind (drop 1 ts))) refl (opens_tuple ts) refl
    where
      deep : (us : Tokens) → read.tuple_in end bytes ns us ≡ Err (refused fault.TooDeep, place end us)
      deep us = ap (λ r. followed us r (λ cs rest. read.after_tuple end bytes ns (place end us) cs rest)) (none_listed end bytes ns below (read.column end bytes) us room)

      fails : (us : Tokens) → refuses true (opened us) ≡ true
      fails us = opened_refused true us (λ h. ap (refuses true) (deep us)) (λ h. ap (refuses true) (below.no_conds room us))

      by : (s : Bool) → is_select (kind (drop 1 ts)) ≡ s → (t : Bool) → opens_tuple ts ≡ t → LocalAt end bytes 0 opened ts
      by true s t h = query_opened ts s
      by false s true h = barred_at end bytes opened (refused fault.TooDeep) ts (as_tuple ts s h ∙ deep ts) (λ us a. fails us)
      by false s false h = barred_at end bytes opened (refused fault.TooDeep) ts (as_condition ts s h ∙ below.no_conds room ts) (λ us a. fails us)

  column_same : (us ts : Tokens) (n : ℕ) → (p : ColumnCloses end bytes (drop 1 ts)) → 2 + p.1 ≤ n → Agree n us ts → ColumnCloses end bytes (drop 1 us)
  column_same us ts n (c, m, e, closes) h a =
      let size : 1 + (suc m) ≤ n = omega (arith, h) in
      let same : Agree (suc m) (drop 1 us) (drop 1 ts) = agree_behind 1 (suc m) us ts (agree_less (1 + (suc m)) n us ts size a) in (
        c,
        m,
        same_value end bytes 0 m c (read.column end bytes) (drop 1 ts) (drop 1 us) (column_local end bytes (drop 1 ts)) e same,
        subst Closes (sym (agree_front kind kind_front m m (drop 1 us) (drop 1 ts) (omega arith) same)) closes,
      )

  -- a tuple
  tuple_opened : ns.room ≡ true → (ts : Tokens) → is_open (kind ts) ≡ true → is_select (kind (drop 1 ts)) ≡ false → opens_tuple ts ≡ true → LocalAt end bytes 0 opened ts
  unfolding LocalAt opens_tuple
  tuple_opened room ts opens s t =
      let p = tuple_column end bytes (drop 1 ts) t in
      subst (Gives end bytes 0 opened ts) (sym (as_tuple ts s t)) (by p (read.tuple_in end bytes ns ts) (tuple_at room ts p.0 p.1 p.2))
    where
      by : (p : ColumnCloses end bytes (drop 1 ts)) (r : Read CondTree) → Gives end bytes (1 + p.1) (read.tuple_in end bytes ns) ts r → Gives end bytes 0 opened ts r
      by p (Ok x) (l, same) = (
        omega arith,
        λ us a.
            let (s', t') = tuple_read us x.0 x.1 (ap is_open (agree_front kind kind_front 0 x.1 us ts (omega arith) a) ∙ opens) (same us a) in
            as_tuple us s' t' ∙ same us a,
      )
      by p (Err e) (k, at, inl (l, same)) = (
        k,
        at,
        inl (
          omega (arith, l),
          λ us a.
              opened_refused (too_deep e.0) us (λ h. same us a) (λ h. ap (refuses (too_deep e.0)) (column_refused room us (column_same us ts (k + looked e.0 (kind (drop k ts))) p (omega (arith, l)) a)) ∙ refuses_any (too_deep e.0) (refused fault.Syntax) refl),
        ),
      )
      by p (Err e) (k, at, inr r) = (k, at, inr r)

  -- ---- a condition in parentheses

  closes_or_not : (ts : Tokens) → ColumnCloses end bytes ts ⊎ (ColumnCloses end bytes ts → ⊥)
  closes_or_not ts = by (read.column end bytes ts) refl
    where
      kinds : (x : ColumnName × ℕ) → read.column end bytes ts ≡ Ok x → (b c : Bool) → is_comma (kind (drop x.1 ts)) ≡ b → is_close (kind (drop x.1 ts)) ≡ c → ColumnCloses end bytes ts ⊎ (ColumnCloses end bytes ts → ⊥)
      kinds x e true c f g = inl (x.0, x.1, e, inl f)
      kinds x e false true f g = inl (x.0, x.1, e, inr g)
      kinds x e false false f g = inr (λ (c, m, e', closes). neither (subst (λ n. Closes (kind (drop n ts))) (sym (ok_parts x.0 c x.1 m (sym e ∙ e')).1) closes))
        where
          neither : Closes (kind (drop x.1 ts)) → ⊥
          neither (inl h) = cc
          neither (inr h) = cc

      by : (r : Read ColumnName) → read.column end bytes ts ≡ r → ColumnCloses end bytes ts ⊎ (ColumnCloses end bytes ts → ⊥)
      by (Ok x) e = kinds x e (is_comma (kind (drop x.1 ts))) (is_close (kind (drop x.1 ts))) refl refl
      by (Err x) e = inr (λ (c, m, e', closes). cc)

  -- where columns turn out to be no tuple
  column_opened : ns.room ≡ true → (ts : Tokens) → is_open (kind ts) ≡ true → is_select (kind (drop 1 ts)) ≡ false → opens_tuple ts ≡ false → ColumnCloses end bytes (drop 1 ts) → LocalAt end bytes 0 opened ts
  unfolding LocalAt
  column_opened room [] opens s t p = absurd cc
  column_opened room (t ∷ ts) opens s no_tuple (c, m, e, closes) =
      let (b, l, f, size, col) = column_sound end bytes ts c m e in
      let rest : drop m ts ≡ l = behind_front ts b l m f size in
      let front : take m ts ≡ b = (λ i. take (sym size i) (f i)) ∙ take-append_seam b l in
      subst (Gives end bytes 0 opened (t ∷ ts)) (sym (as_condition (t ∷ ts) s no_tuple ∙ column_refused room (t ∷ ts) (c, m, e, closes)))
      (suc m, refl, inr (refl, ([], t, b, c, ap (λ z. t ∷ z) front, opens, col, closes, none b l f rest)))
    where
      none : (b l : Tokens) → ts ≡ b ++ l → drop m ts ≡ l → NoTuple end bytes (t ∷ (b ++ drop m ts))
      none b l f rest ks d r g p follows =
          let whole : t ∷ ts ≡ d ++ r = ap (λ z. t ∷ z) (f ∙ ap (λ z. b ++ z) (sym rest)) ∙ g in
          let z = sym (ap opens_tuple whole ∙ (tuple_opens end bytes ks d r p follows).2) ∙ no_tuple in
          absurd cc

  -- another condition in parentheses
  condition_opened : ns.room ≡ true → (ts : Tokens) → is_open (kind ts) ≡ true → is_select (kind (drop 1 ts)) ≡ false → opens_tuple ts ≡ false → (ColumnCloses end bytes (drop 1 ts) → ⊥) → LocalAt end bytes 0 opened ts
  unfolding LocalAt opens_tuple
  condition_opened room ts opens s t none = subst (Gives end bytes 0 opened ts) (sym (as_condition ts s t)) (by (ns.conds ts) (below.conds room ts))
    where
      no_tuple : (us : Tokens) (x : CondTree × ℕ) → ns.conds us ≡ Ok x → (b : Bool) → opens_tuple us ≡ b → opens_tuple us ≡ false
      no_tuple us x e false h = h
      no_tuple us x e true h = let z = sym e ∙ column_refused room us (tuple_column end bytes (drop 1 us) h) in absurd cc

      -- tokens that begin so can still go on as a condition
      goes_on : (us : Tokens) (n : ℕ) → is_open (kind us) ≡ true → (p : ColumnCloses end bytes (drop 1 us)) → n ≤ 1 + p.1 → (vs : Tokens) × (x : CondTree × ℕ) × Agree n vs us × (ns.conds vs ≡ Ok x)
      goes_on [] n is p h = absurd cc
      goes_on (u ∷ us) n is (c, m, e, closes) h =
          let (b, l, f, size, col) = column_sound end bytes us c m e in
          let (l', x, k, q) = below.column_open room u b c is col in
          let fits : n ≤ length (u ∷ b) = omega (arith, h, size) in
          (u ∷ (b ++ l'), (x, k), take-append-le n (u ∷ b) l' fits ∙ sym (take-append-le n (u ∷ b) l fits) ∙ ap (λ z. take n (u ∷ z)) (sym f), q)

      clash : (deep : Bool) (n : ℕ) (us : Tokens) → 1 < n → Agree n us ts → ((vs : Tokens) → Agree n vs ts → refuses deep (ns.conds vs) ≡ true) → ColumnCloses end bytes (drop 1 us) → ⊥
      clash deep n us l a fails p = which (nat_lt n (2 + p.1)) refl
        where
          which : (b : Bool) → nat_lt n (2 + p.1) ≡ b → ⊥
          which false h = none (column_same ts us n p (ltb-false n (2 + p.1) h) (sym a))
          which true h =
              let is : is_open (kind us) ≡ true = ap is_open (agree_front kind kind_front 0 0 us ts (omega arith) (agree_less 1 n us ts (omega (arith, l)) a)) ∙ opens in
              let (vs, x, a', q) = goes_on us n is p (omega (arith, ltb-true n (2 + p.1) h)) in
              let z = ap (refuses deep) (sym q) ∙ fails vs (a' ∙ a) in
              absurd cc

      by : (r : Read CondTree) → Gives end bytes 1 ns.conds ts r → Gives end bytes 0 opened ts r
      by (Ok x) (l, same) = (
        omega arith,
        λ us a.
            as_condition us (select_same false x.1 us ts l a s) (no_tuple us x (same us a) (opens_tuple us) refl) ∙ same us a,
      )
      by (Err e) (k, at, inl (l, fails)) = (
        k,
        at,
        inl (
          omega (arith, l),
          λ us a.
              opened_refused (too_deep e.0) us (λ h. absurd (clash (too_deep e.0) (k + looked e.0 (kind (drop k ts))) us l a fails (tuple_column end bytes (drop 1 us) h))) (λ h. fails us a),
        ),
      )
      by (Err e) (k, at, inr r) = (k, at, inr r)

  opened_at : (ts : Tokens) → is_open (kind ts) ≡ true → (room : Bool) → ns.room ≡ room → (s : Bool) → is_select (kind (drop 1 ts)) ≡ s → (t : Bool) → opens_tuple ts ≡ t → LocalAt end bytes 0 opened ts
  opened_at ts opens false room s is_s t is_t = none_opened room ts
  opened_at ts opens true room true s t is_t = query_opened ts s
  opened_at ts opens true room false s true t = tuple_opened room ts opens s t
  opened_at ts opens true room false s false t = by (closes_or_not (drop 1 ts))
    where
      by : ColumnCloses end bytes (drop 1 ts) ⊎ (ColumnCloses end bytes (drop 1 ts) → ⊥) → LocalAt end bytes 0 opened ts
      by (inl p) = column_opened room ts opens s t p
      by (inr none) = condition_opened room ts opens s t none

  basic_local : Local end bytes 0 (read.basic end bytes ns)
  unfolding read.basic opened
  basic_local ts =
      test_at end bytes is_open 0 0 opened (λ us. followed us (read.operand end bytes us) (λ a rest. read.after_operand end bytes ns (place end us) a rest)) ts (omega arith)
      (λ s. opened_at ts s ns.room refl (is_select (kind (drop 1 ts))) refl (opens_tuple ts) refl)
      (λ s. by_place end bytes 0 (λ p us. followed us (read.operand end bytes us) (λ a rest. read.after_operand end bytes ns p a rest)) ts
      (then_at end bytes 0 (read.operand end bytes) (λ a rest. read.after_operand end bytes ns (place end ts) a rest) ts (operand_local end bytes ts) (λ a m e. after_operand_local end bytes ns below (place end ts) a (drop m ts))))

  pub neg_local : Local end bytes 0 (read.neg end bytes ns)
  unfolding read.neg
  neg_local ts = test_at end bytes is_not 0 0 ns.negs (read.basic end bytes ns) ts (omega arith) (λ s. below.negs ts) (λ s. basic_local ts)

  pub cond_local : Local end bytes 0 (read.cond end bytes ns)
  unfolding read.cond read.conj
  cond_local = run_local end bytes is_or any_of (read.conj end bytes ns) refl (run_local end bytes is_and all_of (read.neg end bytes ns) refl neg_local)
