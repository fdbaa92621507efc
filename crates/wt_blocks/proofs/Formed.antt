-- The tree of a plan whose predicates have a text is formed as a query that was read.
use Rattle.std.proofs.Common.{◌≡◌, ◌≢◌, ℕ, zero, suc, ◌+◌, ◌<◌, ◌≤◌, ◌^◌, Bool, true, false, List, [], ◌∷◌, ◌++◌, map, length, length-append, get_or, Option, Some, None, refl, sym, ap, subst, ◌∙◌, arith}
use Rattle.std.specs.Fmt.{decimal}
use Rattle.std.specs.List.{All, AllByRecursion}
use Rattle.std.specs.Str.{IsAscii}
use Rattle.std.proofs.lemmas.Fmt.{IsAscii-decimal}
use Rattle.std.proofs.lemmas.List.Elements.{All-head, All-tail}
use Rattle.std.proofs.lemmas.Str.{is_utf8-from_IsUtf8, IsUtf8-from_ascii}
use Rattle.wt_bag.specs.Bags.{Each}
use Rattle.wt_bag.proofs.EachLaws.{each_append, each_append_left, each_append_right, each_map, each_implies}
use Rattle.wt_value.specs.declared.value.Value.{Value}
use Rattle.wt_value.specs.declared.value.Value.TheVariants as values
use Rattle.wt_pred.specs.declared.tree.Operand.{Operand}
use Rattle.wt_pred.specs.declared.tree.Operand.TheVariants as operands
use Rattle.wt_pred.specs.Tree.{PredTree, PredTrees}
use Rattle.wt_pred.specs.Tree as preds
use Rattle.wt_pred.specs.Columns.{operand_columns, occurring, occurring_in}
use Rattle.wt_schema.specs.declared.schema.Column as schema_columns
use Rattle.wt_schema.specs.declared.schema.Table.{Table}
use Rattle.wt_schema.specs.Lawful.{IsSchema, IsTable}
use Rattle.wt_ast.specs.declared.tree.Item.TheVariants as items
use Rattle.wt_ast.specs.Lawful.{IsName, IfWritten, OneOrMore, IsColumn, IsItem, IsLiteral, IsScalar, is_comma, IsFormed, IsFilter, IsFrom, IsCond, AreConds}
use Rattle.wt_ast.specs.Lawful as asts
use Rattle.wt_ast.specs.Tree.{CondTree, CondTrees, FromTree, FilterTree, QueryTree, select, trees_of}
use Rattle.wt_ast.specs.Tree as trees
use Rattle.wt_query_rows.specs.declared.scope.ScopeColumn.{ScopeColumn}
use Rattle.wt_query_rows.specs.Scopes.{in_scope}
use Rattle.wt_plan.specs.Tree.{PlanTree}
use Rattle.wt_plan.specs.Tree as plans
use Rattle.wt_plan.specs.Measures.{width}
use Rattle.wt_plan.specs.Regular.{upto, IsConstant, ConstantOperand, HasConstants, AllConstants, Regular}
use Rattle.wt_plan.proofs.Upto.{length_upto, upto_within}
use Rattle.wt_blocks.specs.Blocks.{Block, Zone, block, table, derived, kept, member, inner_join, left_join, block_of, distinct, zone_of, plan_block}
use Rattle.wt_blocks.specs.Counting.{block_width, zone_width, block_items, from_items, condition_items}
use Rattle.wt_blocks.specs.Parts.{HasParts, AllHaveParts, PlanParts}
use Rattle.wt_blocks.specs.Parts as parts
use Rattle.wt_blocks.specs.Printed.{alias_of, place_name, place_names, table_name, table_columns, zone_columns, column_at, columns_at, operand_column, scalar_of, test_tree, test_trees, pair_trees, together, where_of, items_of, block_tree, from_tree, condition_trees, named_items, have_names, star_tree, named_tree, printed}
use Rattle.wt_blocks.proofs.Rebuilt.{width_block, width_zone}
use Rattle.wt_blocks.proofs.Fitting.{BlockFits, ZoneFits, ListFits, plan_fits, items_in_block}
use Rattle.wt_blocks.proofs.Naming.{each_at}
use Rattle.wt_blocks.proofs.Tables.{table_some}
use Rattle.wt_blocks.proofs.Zones.{columns_width, names_count, no_comma}

-- ---- lists

each_by : {X : Type 0} (P : X → Type 0) (xs : List X) → Each P xs → AllByRecursion P xs
each_by P [] h = tt
each_by P (x ∷ xs) h = (h.0, each_by P xs h.1)

by_each : {X : Type 0} (P : X → Type 0) (xs : List X) → AllByRecursion P xs → Each P xs
by_each P [] h = tt
by_each P (x ∷ xs) h = (h.0, by_each P xs h.1)

-- ---- names

ascii_cons : (b : ℕ) (bs : List ℕ) → b < 128 → IsAscii bs → IsAscii (b ∷ bs)
ascii_cons b bs l h zero = l
ascii_cons b bs l h (suc i) = h i

pub letter_name : (b : ℕ) (n : ℕ) → b < 128 → n < 2 ^ 64 → IsName (b ∷ decimal n)
letter_name b n l m = (is_utf8-from_IsUtf8 (b ∷ decimal n) (IsUtf8-from_ascii (b ∷ decimal n) (ascii_cons b (decimal n) l (IsAscii-decimal n m))), omega arith)

pub alias_name : (n : ℕ) → n < 2 ^ 64 → IsName (alias_of n)
alias_name n m = letter_name 113 n (omega arith) m

place_named : (n : ℕ) → n < 2 ^ 64 → IsName (place_name n)
place_named n m = letter_name 99 n (omega arith) m

places_named : (w : ℕ) → w ≤ 16384 → Each IsName (place_names w)
places_named w few = each_map IsName place_name (upto w) (each_implies (λ k. k < w) (λ k. IsName (place_name k)) (upto w) (λ k l. place_named k (omega (arith, l, few))) (upto_within w))

table_named : (all ts : List Table) → All (IsTable all) ts → (n : ℕ) → n < length ts → IsName (table_name ts n)
table_named all [] h n l = absurd (let bad : ⊥ = omega (arith, l) in bad)
table_named all (t ∷ ts) h zero l = let is : IsTable all t = All-head (IsTable all) t ts h in is.name
table_named all (t ∷ ts) h (suc n) l = table_named all ts (All-tail (IsTable all) t ts h) n (omega (arith, l))

all_named : (cs : List schema_columns.Column) → All (λ (c : schema_columns.Column). IsName c.name) cs → Each IsName (map (λ (c : schema_columns.Column). c.name) cs)
all_named [] h = tt
all_named (c ∷ cs) h = (All-head (λ (c : schema_columns.Column). IsName c.name) c cs h, all_named cs (All-tail (λ (c : schema_columns.Column). IsName c.name) c cs h))

columns_named : (all ts : List Table) → All (IsTable all) ts → (n : ℕ) → Each IsName (table_columns ts n)
columns_named all [] h n = tt
columns_named all (t ∷ ts) h zero = let is : IsTable all t = All-head (IsTable all) t ts h in all_named t.columns is.columns.named
columns_named all (t ∷ ts) h (suc n) = columns_named all ts (All-tail (IsTable all) t ts h) n

abbrev pub NamedColumn : ScopeColumn → Type 0
NamedColumn s = IsName s.alias × IsName s.name

scoped : (alias : List ℕ) → IsName alias → (names : List (List ℕ)) → Each IsName names → Each NamedColumn (map (in_scope alias) names)
scoped alias a names h = each_map NamedColumn (in_scope alias) names (each_implies IsName (λ n. NamedColumn (in_scope alias n)) names (λ n is. (a, is)) h)

-- ---- conditions

module _ (columns : List ScopeColumn) (named : Each NamedColumn columns) where
  pub column_named : (k : ℕ) → k < length columns → IsColumn (column_at columns k)
  column_named k l = each_at NamedColumn columns named k (in_scope [] []) l

  pub columns_formed : (cols : List ℕ) → Each (λ k. k < length columns) cols → AllByRecursion IsColumn (columns_at columns cols)
  columns_formed [] h = tt
  columns_formed (k ∷ cols) h = (column_named k h.0, columns_formed cols h.1)

  pub items_formed : (cols : List ℕ) → Each (λ k. k < length columns) cols → AllByRecursion IsItem (map (λ k. items.Column (column_at columns k) None) cols)
  items_formed [] h = tt
  items_formed (k ∷ cols) h = ((column_named k h.0, tt), items_formed cols h.1)

  pub named_formed : (cols : List ℕ) → Each (λ k. k < length columns) cols → (names : List (List ℕ)) → Each IsName names → AllByRecursion IsItem (named_items columns cols names)
  named_formed [] h names n = tt
  named_formed (k ∷ cols) h [] n = tt
  named_formed (k ∷ cols) h (name ∷ names) n = ((column_named k h.0, n.0), named_formed cols h.1 names n.1)

  module _ (cols : List ℕ) (within : Each (λ k. k < length columns) cols) where
    abbrev There : ℕ → Type 0
    There k = k < length cols

    one : (k : ℕ) → k < length cols → IsColumn (operand_column columns cols k)
    one k l = column_named (get_or cols k 0) (each_at (λ j. j < length columns) cols within k 0 l)

    literal : (v : Value) → IsConstant v → IsLiteral v
    literal values.Null h = h
    literal (values.Int n) h = tt
    literal (values.Text t) h = h

    literals : (vs : List Value) → Each IsConstant vs → AllByRecursion IsLiteral vs
    literals [] h = tt
    literals (v ∷ vs) h = (literal v h.0, literals vs h.1)

    scalar : (o : Operand) → Each There (operand_columns o) → ConstantOperand o → IsScalar (scalar_of columns cols o)
    scalar (operands.Column k) h c = one k h.0
    scalar (operands.Constant v) h c = literal v c

    part_counts : (ps : PredTrees) → asts.part_count (test_trees columns cols ps) ≡ parts.part_count ps
    part_counts preds.no_preds = refl
    part_counts (preds.pred_then p ps) = ap (λ n. 1 + n) (part_counts ps)

    mutual
      pub test_formed : (q : PredTree) → Each There (occurring q) → HasParts q → HasConstants q → IsCond (test_tree columns cols q)
      test_formed (preds.compare s a b) h p c = (scalar a (each_append_left There (operand_columns a) (operand_columns b) h) c.0, scalar b (each_append_right There (operand_columns a) (operand_columns b) h) c.1)
      test_formed (preds.is_null k) h p c = one k h.0
      test_formed (preds.is_not_null k) h p c = one k h.0
      test_formed (preds.in_list k vs) h p c = (one k h.0, (p, literals vs c))
      test_formed (preds.all_of ps) h p c = (subst (λ n. 2 ≤ n) (sym (part_counts ps)) p.0, tests_formed ps h p.1 c)
      test_formed (preds.any_of ps) h p c = (subst (λ n. 2 ≤ n) (sym (part_counts ps)) p.0, tests_formed ps h p.1 c)
      test_formed (preds.negated q) h p c = test_formed q h p c

      tests_formed : (ps : PredTrees) → Each There (occurring_in ps) → AllHaveParts ps → AllConstants ps → AreConds (test_trees columns cols ps)
      tests_formed preds.no_preds h p c = tt
      tests_formed (preds.pred_then q ps) h p c = (test_formed q (each_append_left There (occurring q) (occurring_in ps) h) p.0 c.0, tests_formed ps (each_append_right There (occurring q) (occurring_in ps) h) p.1 c.1)

pairs_formed : (lefts rights : List ScopeColumn) → Each NamedColumn lefts → Each NamedColumn rights → (a b : List ℕ) → Each (λ k. k < length lefts) a → Each (λ k. k < length rights) b → Each IsCond (pair_trees lefts rights a b)
pairs_formed lefts rights nl nr [] b h k = tt
pairs_formed lefts rights nl nr (x ∷ a) [] h k = tt
pairs_formed lefts rights nl nr (x ∷ a) (y ∷ b) h k = ((column_named lefts nl x h.0, column_named rights nr y k.0), pairs_formed lefts rights nl nr a b h.1 k.1)

some_pairs : (lefts rights : List ScopeColumn) (a b : List ℕ) → a ≢ [] → length a ≡ length b → 0 < length (pair_trees lefts rights a b)
some_pairs lefts rights [] b h e = absurd (h refl)
some_pairs lefts rights (x ∷ a) [] h e = absurd (let bad : ⊥ = omega (arith, e) in bad)
some_pairs lefts rights (x ∷ a) (y ∷ b) h e = omega arith

trees_count : (cs : List CondTree) → asts.part_count (trees_of cs) ≡ length cs
trees_count [] = refl
trees_count (c ∷ cs) = let e = trees_count cs in omega (arith, e)

trees_formed : (cs : List CondTree) → Each IsCond cs → AreConds (trees_of cs)
trees_formed [] h = tt
trees_formed (c ∷ cs) h = (h.0, trees_formed cs h.1)

together_formed : (cs : List CondTree) → 0 < length cs → Each IsCond cs → IsCond (together cs)
together_formed [] l h = absurd (let bad : ⊥ = omega (arith, l) in bad)
together_formed (c ∷ []) l h = h.0
together_formed (c ∷ d ∷ cs) l h = let e = trees_count (c ∷ d ∷ cs) in (omega (arith, e), trees_formed (c ∷ d ∷ cs) h)

where_formed : (cs : List CondTree) → Each IsCond cs → IsFilter (where_of cs)
where_formed [] h = tt
where_formed (c ∷ cs) h = together_formed (c ∷ cs) (omega arith) h

-- ---- the predicates of zones

abbrev mutual
  pub BlockParts : Block → Type 0
  BlockParts (block once list z) = ZoneParts z

  pub ZoneParts : Zone → Type 0
  ZoneParts (table t w) = Unit {0}
  ZoneParts (derived b) = BlockParts b
  ZoneParts (kept q cols z) = HasParts q × ZoneParts z
  ZoneParts (member cols z b) = ZoneParts z × BlockParts b
  ZoneParts (inner_join a b l r) = ZoneParts l × ZoneParts r
  ZoneParts (left_join a b l r) = ZoneParts l × ZoneParts r

block_parts : (z : Zone) → ZoneParts z → BlockParts (block_of z)
block_parts (table t w) h = h
block_parts (derived b) h = h
block_parts (kept q cols z) h = h
block_parts (member cols z b) h = h
block_parts (inner_join a b l r) h = h
block_parts (left_join a b l r) h = h

distinct_parts : (b : Block) → BlockParts b → BlockParts (distinct b)
distinct_parts (block false list z) h = h
distinct_parts (block true list z) h = h

zone_parts : (p : PlanTree) → PlanParts p → ZoneParts (zone_of p)
zone_parts (plans.table n w) h = tt
zone_parts (plans.proj cols p) h = zone_parts p h
zone_parts (plans.filtered q cols p) h = (h.0, zone_parts p h.1)
zone_parts (plans.inner_join a b l r) h = (zone_parts l h.0, zone_parts r h.1)
zone_parts (plans.left_join a b l r) h = (zone_parts l h.0, zone_parts r h.1)
zone_parts (plans.in_sub cols l r) h = (zone_parts l h.0, block_parts (zone_of r) (zone_parts r h.1))
zone_parts (plans.dedup p) h = distinct_parts (plan_block p) (block_parts (zone_of p) (zone_parts p h))

length_some : {X : Type 0} (xs : List X) → xs ≢ [] → 0 < length xs
length_some [] h = absurd (h refl)
length_some (x ∷ xs) h = omega arith

module _ (S : List Table) (schema : IsSchema S) where
  -- ---- each block has a column

  mutual
    pub block_some : (b : Block) → BlockFits S b → 0 < block_width b
    block_some (block once (Some cols) z) h = length_some cols h.0.some
    block_some (block once None z) h = zone_some z h.2

    pub zone_some : (z : Zone) → ZoneFits S z → 0 < zone_width z
    zone_some (table t w) h = let l = table_some S schema t h.0 in let e = h.1 in omega (arith, l, e)
    zone_some (derived b) h = block_some b h
    zone_some (kept q cols z) h = zone_some z h.1
    zone_some (member cols z b) h = zone_some z h.1
    zone_some (inner_join a b l r) h = let m = zone_some l h.1 in omega (arith, m)
    zone_some (left_join a b l r) h = let m = zone_some l h.1 in omega (arith, m)

  few_columns : (b : Block) → BlockFits S b → block_width b ≤ 16384
  few_columns (block once list z) h = h.1

  pub zone_named : (n : ℕ) (z : Zone) → ZoneFits S z → n + from_items z ≤ 2 ^ 64 → Each NamedColumn (zone_columns S n z)
  zone_named n (table t w) h room = scoped (alias_of n) (alias_name n (omega (arith, room))) (table_columns S t) (columns_named S S schema.each t)
  zone_named n (derived b) h room = scoped (alias_of n) (alias_name n (omega (arith, room))) (place_names (block_width b)) (places_named (block_width b) (few_columns b h))
  zone_named n (kept q cols z) h room = zone_named n z h.1 room
  zone_named n (member cols z b) h room = zone_named n z h.1 room
  zone_named n (inner_join a b l r) h room = each_append NamedColumn (zone_columns S n l) (zone_columns S (n + from_items l) r) (zone_named n l h.1 (omega (arith, room))) (zone_named (n + from_items l) r h.2 (omega (arith, room)))
  zone_named n (left_join a b l r) h room = each_append NamedColumn (zone_columns S n l) (zone_columns S (n + from_items l) r) (zone_named n l h.1 (omega (arith, room))) (zone_named (n + from_items l) r h.2 (omega (arith, room)))

  -- ---- a select list

  list_formed : (n : ℕ) (z : Zone) → ZoneFits S z → n + from_items z ≤ 2 ^ 64 → (list : Option (List ℕ)) → ListFits S (zone_width z) list → OneOrMore IsItem (items_of list (zone_columns S n z))
  list_formed n z h room None f = (omega arith, (tt, tt))
  list_formed n z h room (Some cols) f =
      let w = columns_width S n z h in
      let e = Rattle.wt_plan.proofs.Upto.length_map (λ k. items.Column (column_at (zone_columns S n z) k) None) cols in
      let some = length_some cols f.some in
      (omega (arith, e, some), items_formed (zone_columns S n z) (zone_named n z h room) cols (subst (λ m. Each (λ k. k < m) cols) (sym w) f.within))

  mutual
    pub block_formed : (n : ℕ) (b : Block) → BlockFits S b → BlockParts b → n + block_items b ≤ 2 ^ 64 → IsFormed (block_tree S n b)
    block_formed n (block once list z) h p room = (
      list_formed n z h.2 (omega (arith, room)) list h.0,
      from_formed n z h.2 p (omega (arith, room)),
      where_formed (condition_trees S n (n + from_items z) z) (conditions_formed n (n + from_items z) z h.2 p (omega (arith, room)) (omega (arith, room))),
    )

    pub from_formed : (n : ℕ) (z : Zone) → ZoneFits S z → ZoneParts z → n + from_items z ≤ 2 ^ 64 → IsFrom (from_tree S n z)
    from_formed n (table t w) h p room = (table_named S S schema.each t h.0, alias_name n (omega (arith, room)))
    from_formed n (derived b) h p room =
        let some = block_some b h in
        let e = names_count (block_width b) in (
          block_formed (suc n) b h p (omega (arith, room)),
          alias_name n (omega (arith, room)),
          (omega (arith, some, e), each_by IsName (place_names (block_width b)) (places_named (block_width b) (few_columns b h))),
        )
    from_formed n (kept q cols z) h p room = from_formed n z h.1 p.1 room
    from_formed n (member cols z b) h p room = from_formed n z h.1 p.0 room
    from_formed n (inner_join a b l r) h p room =
        let m = n + from_items l in
        let lefts = zone_columns S n l in
        let rights = zone_columns S m r in
        let wl = columns_width S n l h.1 in
        let wr = columns_width S m r h.2 in
        let in_left : Each (λ k. k < length lefts) a = subst (λ v. Each (λ k. k < v) a) (sym wl) h.0.pairs.lefts.within in
        let in_right : Each (λ k. k < length rights) b = subst (λ v. Each (λ k. k < v) b) (sym wr) h.0.pairs.rights.within in (
          from_formed n l h.1 p.0 (omega (arith, room)),
          no_comma S n l,
          from_formed m r h.2 p.1 (omega (arith, room)),
          no_comma S m r,
          together_formed (pair_trees lefts rights a b) (some_pairs lefts rights a b h.0.pairs.lefts.some h.0.pairs.equally_many)
              (pairs_formed lefts rights (zone_named n l h.1 (omega (arith, room))) (zone_named m r h.2 (omega (arith, room))) a b in_left in_right),
        )
    from_formed n (left_join a b l r) h p room =
        let m = n + from_items l in
        let lefts = zone_columns S n l in
        let rights = zone_columns S m r in
        let wl = columns_width S n l h.1 in
        let wr = columns_width S m r h.2 in
        let in_left : Each (λ k. k < length lefts) a = subst (λ v. Each (λ k. k < v) a) (sym wl) h.0.pairs.lefts.within in
        let in_right : Each (λ k. k < length rights) b = subst (λ v. Each (λ k. k < v) b) (sym wr) h.0.pairs.rights.within in
        let cs = condition_trees S m (m + from_items r) r in
        let ps = pair_trees lefts rights a b in
        let some = some_pairs lefts rights a b h.0.pairs.lefts.some h.0.pairs.equally_many in
        let many = length-append ps cs in (
          from_formed n l h.1 p.0 (omega (arith, room)),
          no_comma S n l,
          from_formed m r h.2 p.1 (omega (arith, room)),
          no_comma S m r,
          together_formed (ps ++ cs) (omega (arith, some, many)) (each_append IsCond ps cs
              (pairs_formed lefts rights (zone_named n l h.1 (omega (arith, room))) (zone_named m r h.2 (omega (arith, room))) a b in_left in_right)
              (conditions_formed m (m + from_items r) r h.2 p.1 (omega (arith, room)) (omega (arith, room)))),
        )

    pub conditions_formed : (n m : ℕ) (z : Zone) → ZoneFits S z → ZoneParts z → n + from_items z ≤ 2 ^ 64 → m + condition_items z ≤ 2 ^ 64 → Each IsCond (condition_trees S n m z)
    conditions_formed n m (table t w) h p room more = tt
    conditions_formed n m (derived b) h p room more = tt
    conditions_formed n m (kept q cols z) h p room more =
        let columns = zone_columns S n z in
        let w = columns_width S n z h.1 in
        let within : Each (λ k. k < length columns) cols = subst (λ v. Each (λ k. k < v) cols) (sym w) h.0.places.within in
        each_append IsCond (condition_trees S n m z) (test_tree columns cols q ∷ []) (conditions_formed n m z h.1 p.1 room more)
        (test_formed columns (zone_named n z h.1 room) cols within q h.0.there p.0 h.0.regular.constants, tt)
    conditions_formed n m (member cols z b) h p room more =
        let columns = zone_columns S n z in
        let w = columns_width S n z h.1 in
        let within : Each (λ k. k < length columns) cols = subst (λ v. Each (λ k. k < v) cols) (sym w) h.0.places.within in
        let e = Rattle.wt_plan.proofs.Upto.length_map (column_at columns) cols in
        let some = length_some cols h.0.places.some in
        each_append IsCond (condition_trees S n m z) (trees.in_query 0 (columns_at columns cols) (block_tree S (m + condition_items z) b) 0 ∷ []) (conditions_formed n m z h.1 p.0 room (omega (arith, more)))
        (((omega (arith, e, some), columns_formed columns (zone_named n z h.1 room) cols within), block_formed (m + condition_items z) b h.2 p.1 (omega (arith, more))), tt)
    conditions_formed n m (inner_join a b l r) h p room more =
        each_append IsCond (condition_trees S n m l) (condition_trees S (n + from_items l) (m + condition_items l) r) (conditions_formed n m l h.1 p.0 (omega (arith, room)) (omega (arith, more)))
        (conditions_formed (n + from_items l) (m + condition_items l) r h.2 p.1 (omega (arith, room)) (omega (arith, more)))
    conditions_formed n m (left_join a b l r) h p room more = conditions_formed n m l h.1 p.0 (omega (arith, room)) more

  -- ---- the whole query

  some_names : (columns : List ScopeColumn) (cols : List ℕ) (names : List (List ℕ)) → cols ≢ [] → length names ≡ length cols → 0 < length (named_items columns cols names)
  some_names columns [] names h e = absurd (h refl)
  some_names columns (k ∷ cols) [] h e = absurd (let bad : ⊥ = omega (arith, e) in bad)
  some_names columns (k ∷ cols) (name ∷ names) h e = omega arith

  star_formed : (same : Bool) (once : Bool) (z : Zone) (names : List (List ℕ)) → ZoneFits S z → ZoneParts z → zone_width z ≤ 16384 → 1 + (from_items z + condition_items z) ≤ 2 ^ 64 → length names ≡ zone_width z → Each IsName names
      → IsFormed (star_tree same S once z names)
  star_formed true once z names h p few room e named = block_formed 0 (block once None z) (tt, few, h) p (omega (arith, room))
  star_formed false once z names h p few room e named =
      let some = zone_some z h in (
        (omega arith, (tt, tt)),
        (block_formed 1 (block false None z) (tt, few, h) p room, alias_name 0 (omega arith), (omega (arith, e, some), each_by IsName names named)),
        tt,
      )

  pub root_formed : (b : Block) (names : List (List ℕ)) → BlockFits S b → BlockParts b → 1 + block_items b ≤ 2 ^ 64 → length names ≡ block_width b → Each IsName names → IsFormed (named_tree S b names)
  root_formed (block once (Some cols) z) names h p room e named =
      let few : 0 + (from_items z + condition_items z) ≤ 2 ^ 64 = omega (arith, room) in
      let w = columns_width S 0 z h.2 in (
        (some_names (zone_columns S 0 z) cols names h.0.some e, named_formed (zone_columns S 0 z) (zone_named 0 z h.2 (omega (arith, few))) cols (subst (λ m. Each (λ k. k < m) cols) (sym w) h.0.within) names named),
        from_formed 0 z h.2 p (omega (arith, few)),
        where_formed (condition_trees S 0 (0 + from_items z) z) (conditions_formed 0 (0 + from_items z) z h.2 p (omega (arith, few)) (omega (arith, few))),
      )
  root_formed (block once None z) names h p room e named = star_formed (have_names (zone_columns S 0 z) names) once z names h.2 p h.1 room e named

  pub printed_formed : (p : PlanTree) → Regular S p → PlanParts p → (names : List (List ℕ)) → length names ≡ width p → AllByRecursion IsName names → IsFormed (printed S p names)
  printed_formed p regular has names e named =
      let few = items_in_block p in
      let cheap = regular.well_formed.cheap in
      root_formed (plan_block p) names (plan_fits S p regular.well_formed.places regular.nodes regular.few_columns) (block_parts (zone_of p) (zone_parts p has)) (omega (arith, few, cheap))
      (e ∙ sym (width_block (zone_of p) ∙ width_zone p)) (by_each IsName names named)
