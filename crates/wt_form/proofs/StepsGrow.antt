-- A step stays a step where more is known.
use Rattle.std.proofs.Common.{ℕ, zero, suc, ◌≡◌, ◌⊎◌, inl, inr, Bool, true, false, List}
use Rattle.wt_symbol.specs.declared.head.Part.{Part}
use Rattle.wt_symbol.specs.declared.head.PartCols.TheVariants.{Whole, List as Listed}
use Rattle.wt_form.specs.declared.form.Expr.{Expr}
use Rattle.wt_form.specs.declared.form.Expr.TheVariants.{Of, Null as NullOf}
use Rattle.wt_form.specs.Trees.{Terms, Ranges, FormRange, Rel, distinct_of, Conds, Cond, is_in, Form}
use Rattle.wt_form.specs.Parts.{ranges_list, conds_list, ranges_count}
use Rattle.wt_form.specs.Known.{Known}
use Rattle.wt_form.specs.Growing.{Grows}
use Rattle.wt_form.specs.Facts.{NotNull, by_relation, by_condition, Determined, by_whole_row, by_columns, by_join, by_parts}
use Rattle.wt_bag.specs.Choices.{Has}
use Rattle.wt_form.specs.Congruent.{CondSame}
use Rattle.wt_form.specs.Places.{others, itself}
use Rattle.wt_form.specs.Drops.{NeverNull, ByReference, ByJoin}
use Rattle.wt_form.specs.Joining.{Joined, JoinedTogether}
use Rattle.wt_form.specs.Opening.{AllDetermined}
use Rattle.wt_form.specs.TwoTerms.{TermSame}
use Rattle.wt_form.specs.Steps.{Row, by_repeated, by_self_join, by_in_true, by_join_to_in, by_merged, by_not_in_false, by_null_compared, by_not_in_of_null, by_opened, by_rewritten, PairRow, in_first, in_second, twin, Step}
use Rattle.wt_form.specs.Provable.{Chain, ProvableForms}
use Rattle.wt_form.proofs.Moves.{terms_more}
use Rattle.wt_form.proofs.SameGrows.{expr_grows, pieces_grow, terms_grow, ranges_grow, conds_grow, cond_grows}

module _ (K L : Known) (more : Grows K L) where
  not_null_grows : (rs : List FormRange) (cs : List Cond) (v i c : ℕ) → NotNull K rs cs v i c → NotNull L rs cs v i c
  not_null_grows rs cs v i c (by_relation {r = r} {d = d} at n w) = by_relation at (more.not_null r d n) (more.within c d w)
  not_null_grows rs cs v i c (by_condition {d = d} q has compares w) = by_condition q has compares (more.within c d w)

  never_null_grows : (rs : Ranges) (cs : Conds) (x : Expr) → NeverNull K rs cs x → NeverNull L rs cs x
  never_null_grows rs cs (Of v i (Listed c)) h = not_null_grows (ranges_list rs) (conds_list cs) v i c h
  never_null_grows rs cs (Of v i Whole) h = absurd h
  never_null_grows rs cs (NullOf r c) h = absurd h

  determined_grows : (rs : List FormRange) (cs : List Cond) (ps : List Expr) (u : ℕ) → Determined K rs cs ps u → Determined L rs cs ps u
  determined_grows rs cs ps u (by_whole_row {r = r} {c = c} at q piece full) = by_whole_row at (more.unique r c q) piece (not_null_grows rs cs u 0 c full)
  determined_grows rs cs ps u (by_columns {r = r} {c = c} {d = d} at q piece w full) = by_columns at (more.unique r c q) piece (more.within c d w) (not_null_grows rs cs u 0 c full)
  determined_grows rs cs ps u (by_join {w = w} {r = r} {c = c} {c' = c'} e q at unique same has joins over other d) =
      by_join e q at (more.unique r c unique) (more.attr c' c same) has joins over other (determined_grows rs cs ps w d)
  determined_grows rs cs ps u (by_parts h ts at holds) = by_parts h ts at holds

  by_reference_grows : (rs : Ranges) (cs : Conds) (e : Expr) (ts : Terms) → ByReference K rs cs e ts → ByReference L rs cs e ts
  by_reference_grows rs cs e ts h = record {
    x = h.x;
    a = h.a;
    r = h.r;
    s = h.s;
    b = h.b;
    from = h.from;
    over = h.over;
    to = h.to;
    refers_to = more.refs h.r h.a h.s h.b h.refers_to;
    never_null = never_null_grows rs cs e h.never_null;
  }

  by_join_grows : (rs : Ranges) (cs : Conds) (e : Expr) (ts : Terms) → ByJoin K rs cs e ts → ByJoin L rs cs e ts
  by_join_grows rs cs e ts h = record {
    e' = h.e';
    y = h.y;
    b = h.b;
    r = h.r;
    s = h.s;
    b' = h.b';
    join = h.join;
    there = h.there;
    joins = h.joins;
    same = expr_grows K L more.rel more.attr more.pred (itself rs) e h.e' h.same;
    over = h.over;
    to = h.to;
    leaf = more.rel h.r h.s h.leaf;
    list = more.attr h.b h.b' h.list;
  }

  in_true_why : (rs : Ranges) (cs : Conds) (e : Expr) (ts : Terms) → ByReference K rs cs e ts ⊎ ByJoin K rs cs e ts → ByReference L rs cs e ts ⊎ ByJoin L rs cs e ts
  in_true_why rs cs e ts (inl h) = inl (by_reference_grows rs cs e ts h)
  in_true_why rs cs e ts (inr h) = inr (by_join_grows rs cs e ts h)

  in_false_why : (rs : Ranges) (cs : Conds) (e : Expr) (h : List Part) (ts : Terms) →
      ((c : Cond) × Has c (conds_list cs) × CondSame K (itself rs) c (is_in e h ts)) ⊎ ByReference K rs cs e ts ⊎ ByJoin K rs cs e ts →
      ((c : Cond) × Has c (conds_list cs) × CondSame L (itself rs) c (is_in e h ts)) ⊎ ByReference L rs cs e ts ⊎ ByJoin L rs cs e ts
  in_false_why rs cs e h ts (inl (c, has, same)) = inl (c, has, cond_grows K L more.rel more.attr more.pred (itself rs) c (is_in e h ts) same)
  in_false_why rs cs e h ts (inr (inl q)) = inr (inl (by_reference_grows rs cs e ts q))
  in_false_why rs cs e h ts (inr (inr q)) = inr (inr (by_join_grows rs cs e ts q))

  joined_grows : (nested : Bool) (range : FormRange) (b : ℕ) (h : List Part) (ts : Terms) → Joined K nested range b h ts → Joined L nested range b h ts
  joined_grows nested (Rel r) b h ts (inl n, q, t) = (inl n, q, t)
  joined_grows nested (Rel r) b h ts (inr u, q, t) = (inr (more.unique r b u), q, t)
  joined_grows nested (distinct_of g us) b h ts (leaf, d, q, same, p, t) = (leaf, d, q, more.attr b d same, p, t)

  together_grows : (rs : Ranges) (cs : Conds) (a x y : ℕ) → JoinedTogether K rs cs a x y → JoinedTogether L rs cs a x y
  together_grows rs cs a x y (b, c, p, q, inl j) = (b, c, more.attr b a p, more.attr c a q, inl j)
  together_grows rs cs a x y (b, c, p, q, inr (j, j', e, e', has, has', joins, joins', same)) =
      (b, c, more.attr b a p, more.attr c a q, inr (j, j', e, e', has, has', joins, joins', expr_grows K L more.rel more.attr more.pred (itself rs) e e' same))

  allowed_grows : (nested : Bool) (rs : Ranges) (cs : Conds) (ps : List Expr) → (nested ≡ true) ⊎ AllDetermined K rs cs ps → (nested ≡ true) ⊎ AllDetermined L rs cs ps
  allowed_grows nested rs cs ps (inl n) = inl n
  allowed_grows nested rs cs ps (inr all) = inr (λ u l. determined_grows (ranges_list rs) (conds_list cs) ps u (all u l))

  pub row_grows : (nested : Bool) (rs : Ranges) (cs : Conds) (ps : List Expr) (us : Terms) → Row K nested rs cs ps us → Row L nested rs cs ps us
  row_grows nested rs cs ps us (by_repeated h) = by_repeated record {
    before = h.before;
    between = h.between;
    after = h.after;
    earlier = h.earlier;
    later = h.later;
    is = h.is;
    same = cond_grows K L more.rel more.attr more.pred (itself rs) h.earlier h.later h.same;
    gives = h.gives;
  }
  row_grows nested rs cs ps us (by_self_join h) = by_self_join record {
    x = h.x;
    y = h.y;
    place = h.place;
    same = expr_grows K L more.rel more.attr more.pred (itself rs) h.x h.y h.same;
    never_null = never_null_grows rs (others h.place) h.x h.never_null;
    gives = h.gives;
  }
  row_grows nested rs cs ps us (by_in_true h) = by_in_true record { e = h.e; h = h.h; ts = h.ts; place = h.place; why = in_true_why rs (others h.place) h.e h.ts h.why; gives = h.gives }
  row_grows nested rs cs ps us (by_join_to_in h) = by_join_to_in record {
    range = h.range;
    at = h.at;
    e = h.e;
    b = h.b;
    join = h.join;
    place = h.place;
    joins = h.joins;
    elsewhere = h.elsewhere;
    h = h.h;
    ts = h.ts;
    becomes = joined_grows nested h.range h.b h.h h.ts h.becomes;
    gives = h.gives;
  }
  row_grows nested rs cs ps us (by_merged h) = by_merged record {
    x = h.x;
    r = h.r;
    s = h.s;
    a = h.a;
    at = h.at;
    before = h.before;
    over = h.over;
    leaf = more.rel h.r h.s h.leaf;
    unique = more.unique h.r h.a h.unique;
    joined = together_grows rs cs h.a h.x (ranges_count h.at.before) h.joined;
    gives = h.gives;
  }
  row_grows nested rs cs ps us (by_not_in_false h) = by_not_in_false record { e = h.e; h = h.h; ts = h.ts; place = h.place; why = in_false_why rs (others h.place) h.e h.h h.ts h.why; gives = h.gives }
  row_grows nested rs cs ps us (by_null_compared h) = by_null_compared h
  row_grows nested rs cs ps us (by_not_in_of_null h) = by_not_in_of_null h
  row_grows nested rs cs ps us (by_opened h) = by_opened record {
    before = h.before;
    after = h.after;
    head = h.head;
    inner = h.inner;
    conds = h.conds;
    pieces = h.pieces;
    is = h.is;
    allowed = allowed_grows nested h.inner h.conds h.pieces h.allowed;
    cs' = h.cs';
    ps' = h.ps';
    conds_opened = h.conds_opened;
    pieces_opened = h.pieces_opened;
    gives = h.gives;
  }
  row_grows nested rs cs ps us (by_rewritten h) = by_rewritten record {
    e = h.e;
    e' = h.e';
    join = h.join;
    place = h.place;
    joins = h.joins;
    earlier = h.earlier;
    cs' = h.cs';
    is = h.is;
    changed = h.changed;
    gives = h.gives;
  }

  term_grows : (ks : List ℕ) (rs : Ranges) (cs : Conds) (ps : List Expr) (rs' : Ranges) (cs' : Conds) (ps' : List Expr) → TermSame K ks rs cs ps rs' cs' ps' → TermSame L ks rs cs ps rs' cs' ps'
  term_grows ks rs cs ps rs' cs' ps' h = record {
    ranges = ranges_grow K L more.rel more.attr more.pred ks rs (ranges_list rs') h.ranges;
    conds = conds_grow K L more.rel more.attr more.pred ks cs (conds_list cs') h.conds;
    pieces = pieces_grow K L more.rel more.attr more.pred ks ps ps' h.pieces;
  }

  pub pair_row_grows : (nested : Bool) (rs : Ranges) (cs : Conds) (ps : List Expr) (rs' : Ranges) (cs' : Conds) (ps' : List Expr) (us : Terms) → PairRow K nested rs cs ps rs' cs' ps' us → PairRow L nested rs cs ps rs' cs' ps' us
  pair_row_grows nested rs cs ps rs' cs' ps' us (in_first h) = in_first record {
    e = h.e;
    h = h.h;
    ts = h.ts;
    e' = h.e';
    h' = h.h';
    us = h.us;
    place = h.place;
    place' = h.place';
    ks = h.ks;
    values = expr_grows K L more.rel more.attr more.pred h.ks h.e h.e' h.values;
    rows = terms_grow K L more.rel more.attr more.pred h.ts h.us h.rows;
    same = term_grows h.ks rs (others h.place) ps rs' (others h.place') ps' h.same;
  }
  pair_row_grows nested rs cs ps rs' cs' ps' us (in_second h) = in_second record {
    e = h.e;
    h = h.h;
    ts = h.ts;
    e' = h.e';
    h' = h.h';
    us = h.us;
    place = h.place;
    place' = h.place';
    ks = h.ks;
    values = expr_grows K L more.rel more.attr more.pred h.ks h.e h.e' h.values;
    rows = terms_grow K L more.rel more.attr more.pred h.ts h.us h.rows;
    same = term_grows h.ks rs' (others h.place) ps' rs (others h.place') ps h.same;
  }
  pair_row_grows nested rs cs ps rs' cs' ps' us (twin h) = twin record { ks = h.ks; inside = h.inside; same = term_grows h.ks rs cs ps rs' cs' ps' h.same }

  pub step_grows : (f g : Form) → Step K f g → Step L f g
  step_grows f g (head, s) = (head, terms_more (Row K) (Row L) (PairRow K) (PairRow L) row_grows pair_row_grows false f.terms g.terms s)

  pub chain_grows : (k : ℕ) (f g : Form) → Chain K k f g → Chain L k f g
  chain_grows zero f g h = h
  chain_grows (suc k) f g (inl e) = inl e
  chain_grows (suc k) f g (inr (h, s, c)) = inr (h, step_grows f h s, chain_grows k h g c)

  pub provable_grows : (k : ℕ) (f g : Form) → ProvableForms K k f g → ProvableForms L k f g
  provable_grows k f g (f', g', c, d, same) = (f', g', chain_grows k f f' c, chain_grows k g g' d, terms_grow K L more.rel more.attr more.pred f'.terms g'.terms same)
