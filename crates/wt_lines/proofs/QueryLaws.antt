-- The query that rules make of a statement has its rows and its names, is rewritten as itself, and no rule has a match in it.
use Rattle.std.proofs.Common.{subst, ◌≡◌, ◌∙◌, ℕ, suc, ◌<◌, Bool, true, false, List, [], ◌∷◌, length, sym, ap, arith}
use Rattle.std.specs.Prelude.{None, slice_index_or, if◌then◌else◌}
use Rattle.std.specs.Str.{bytes_eq}
use Rattle.wt_bag.specs.Bags.{Each, count_of}
use Rattle.wt_bag.proofs.EachLaws.{each_implies}
use Rattle.wt_ast.specs.Tree.{QueryTree}
use Rattle.wt_value.specs.Values.{Tuple, IsOneBag, row_same}
use Rattle.wt_schema.specs.declared.schema.Table.{Table}
use Rattle.wt_schema.specs.Satisfying.{Satisfies, RowFits}
use Rattle.wt_plan.specs.Tree.{PlanTree}
use Rattle.wt_plan.specs.Measures.{width}
use Rattle.wt_plan.specs.Regular.{Regular}
use Rattle.wt_plan.specs.Rows.{plan_rows}
use Rattle.wt_place.proofs.NarrowKept.{width_placed}
use Rattle.wt_place.proofs.Regularity.{regular_placed}
use Rattle.wt_query_rows.specs.Scopes.{columns_named, output_names}
use Rattle.wt_query_rows.specs.Rows.{query_rows, table_rows}
use Rattle.wt_query_plan.specs.Building.{planned}
use Rattle.wt_query_plan.specs.Faults.{query_fault}
use Rattle.wt_query_plan.specs.Standing.{RowsFit}
use Rattle.wt_query_plan.proofs.InRange.{built_law}
use Rattle.wt_query_bounds.proofs.Narrowing.{query_width}
use Rattle.wt_regular.proofs.Regulars.{regular_plan}
use Rattle.wt_known.proofs.Lists.{each_from_all}
use Rattle.wt_known.proofs.UniqueFacts.{length_row}
use Rattle.wt_blocks.specs.Printed.{printed}
use Rattle.wt_blocks.proofs.Root.{printed_fine, printed_plan, printed_names}
use Rattle.wt_placed.proofs.Again.{is_placed}
use Rattle.wt_rule.specs.declared.Rule.{Rule}
use Rattle.wt_place.specs.Keeping.{IsPlaced}
use Rattle.wt_chains.specs.Chains.{AreLawful, AreSound, HasNoMatch, ends}
use Rattle.wt_chains.proofs.Chained.{chain_ends, chain_one, chain_placed, chain_regular, chain_rows, chain_wide}
use Rattle.wt_lines.specs.Laws.{HasNoMatchLeft, IsAccepted, IsOne, KeepsNames, KeepsRows, Stays}
use Rattle.wt_lines.specs.Queries.{IsRewritten, plan_of}

-- the rows of a database that satisfies the schema are as wide as its tables
rows_wide : (ts : List Table) (rs : List (List Tuple)) → ((k : ℕ) (t : Table) → k < length ts → Each (RowFits (slice_index_or ts k t).columns) (slice_index_or rs k [])) → (name : List ℕ)
    → Each (λ row. length row ≡ length (columns_named ts name)) (table_rows ts rs name)
rows_wide [] rs h name = tt
rows_wide (t ∷ ts) [] h name = tt
rows_wide (t ∷ ts) (rows ∷ rs) h name =
    here (bytes_eq t.name name) (each_implies (RowFits t.columns) (λ row. length row ≡ length t.columns) rows (λ row fits. length_row t.columns row fits) (h 0 t (omega arith)))
    (rows_wide ts rs (λ k d lt. h (suc k) d (omega (arith, lt))) name)
  where
    here : (b : Bool) → Each (λ row. length row ≡ length t.columns) rows → Each (λ row. length row ≡ length (columns_named ts name)) (table_rows ts rs name)
        → Each (λ row. length row ≡ length (if b then t.columns else columns_named ts name)) (if b then rows else table_rows ts rs name)
    here true own others = own
    here false own others = others

rows_fit : (tables : List Table) (base : List (List Tuple)) → Satisfies tables base → RowsFit tables base
rows_fit tables base holds = rows_wide tables base (λ k t lt. each_from_all _ _ (holds.each k t lt).rows_fit)

module _ (tables : List Table) (query : QueryTree) (accepted : IsAccepted tables query) where
  regular : Regular tables (plan_of tables query)
  regular = regular_placed tables (planned tables query) (regular_plan tables accepted.schema query accepted.lawful accepted.faultless)

  many : length (output_names tables query) ≡ width (plan_of tables query)
  many = sym (width_placed (planned tables query) ∙ query_width tables query [] accepted.faultless)

  module _ (rules : List Rule) (new : QueryTree) (made : IsRewritten tables rules query new) where
    last_regular : Regular tables made.last
    last_regular = chain_regular tables rules regular made.is_last.chain

    last_many : length (output_names tables query) ≡ width made.last
    last_many = many ∙ sym (chain_wide tables rules made.is_last.chain)

    last_placed : IsPlaced made.last
    last_placed = chain_placed tables rules (is_placed (planned tables query)) made.is_last.chain

    pub no_fault : query_fault tables [] new ≡ None
    no_fault = subst (λ q. query_fault tables [] q ≡ None) (sym made.is) (printed_fine tables accepted.schema made.last last_regular (output_names tables query) last_many _)

    same_plan : plan_of tables new ≡ made.last
    same_plan = ap (plan_of tables) made.is ∙ printed_plan tables accepted.schema made.last last_regular (output_names tables query) last_many ∙ last_placed

    pub same_names : output_names tables new ≡ output_names tables query
    same_names = ap (output_names tables) made.is ∙ printed_names tables accepted.schema made.last last_regular (output_names tables query) last_many

    pub same_rows : AreLawful rules → AreSound rules → (base : List (List Tuple)) → Satisfies tables base → IsOneBag (query_rows tables base new) (query_rows tables base query)
    same_rows lawful sound base holds =
        let new_bag = built_law base tables (rows_fit tables base holds) new no_fault in
        let own_bag = built_law base tables (rows_fit tables base holds) query accepted.faultless in
        let chain_bag = chain_rows tables rules accepted.schema lawful sound base holds regular made.is_last.chain in
        both_bags base new_bag own_bag chain_bag
      where
        both_bags : (base : List (List Tuple)) → IsOneBag (query_rows tables base new) (plan_rows base (plan_of tables new)) → IsOneBag (query_rows tables base query) (plan_rows base (plan_of tables query))
            → IsOneBag (plan_rows base (plan_of tables query)) (plan_rows base made.last) → IsOneBag (query_rows tables base new) (query_rows tables base query)
        both_bags base one two chain = record { counts = λ row. one.counts row ∙ ap (λ (p : PlanTree). count_of row_same (plan_rows base p) row) same_plan ∙ sym (chain.counts row) ∙ sym (two.counts row) }

    pub none_left : HasNoMatch tables rules (plan_of tables new)
    none_left = subst (HasNoMatch tables rules) (sym same_plan) (chain_ends tables rules made.is_last.chain)

    pub stays_so : IsRewritten tables rules new new
    stays_so = record {
      last = plan_of tables new;
      is_last = record { trace = []; chain = ends none_left };
      is = made.is ∙ both made.last (plan_of tables new) (output_names tables query) (output_names tables new) (sym same_plan) (sym same_names);
    }
      where
        both : (p q : PlanTree) (ns ms : List (List ℕ)) → p ≡ q → ns ≡ ms → printed tables p ns ≡ printed tables q ms
        both p q ns ms e f = ap (λ z. printed tables z ns) e ∙ ap (printed tables q) f

    pub only_one : AreLawful rules → (other : QueryTree) → IsRewritten tables rules query other → new ≡ other
    only_one lawful other also =
        let same = chain_one tables rules accepted.schema lawful regular made.is_last.chain also.is_last.chain in
        made.is ∙ ap (λ p. printed tables p (output_names tables query)) same.0 ∙ sym also.is

pub keeps_rows : (rules : List Rule) → AreLawful rules → AreSound rules → KeepsRows rules
keeps_rows rules lawful sound tables base query new accepted holds made = same_rows tables query accepted rules new made lawful sound base holds

pub keeps_names : (rules : List Rule) → KeepsNames rules
keeps_names rules tables query new accepted made = same_names tables query accepted rules new made

pub stays : (rules : List Rule) → Stays rules
stays rules tables query new accepted made = (no_fault tables query accepted rules new made, stays_so tables query accepted rules new made)

pub has_no_match : (rules : List Rule) → HasNoMatchLeft rules
has_no_match rules tables query new accepted made = none_left tables query accepted rules new made

pub is_one : (rules : List Rule) → AreLawful rules → IsOne rules
is_one rules lawful tables query new other accepted made also = only_one tables query accepted rules new made lawful other also
