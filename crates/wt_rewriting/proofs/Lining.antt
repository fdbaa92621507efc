-- The lines of statements, one after another.
use Rattle.std.proofs.Common.{◌≡◌, ◌∙◌, ℕ, ◌+◌, ◌<◌, ◌≤◌, ◌||◌, Bool, List, [], ◌∷◌, ◌++◌, false, length, take, refl, ap, ap₂, sym, subst, add-one, append_assoc, arith, inl, inr}
use Rattle.std.specs.Prelude.{Some, Ok, Err, Result, IfOk, slice_get}
use Rattle.std.specs.Io.KnownBytes.{append_known}
use Rattle.std.specs.declared.option.Option.{Option}
use Rattle.std.proofs.Math.Bool.{or-false}
use Rattle.std.proofs.Math.Seq.{take-suc}
use Rattle.std.proofs.lemmas.Grind.{flat_map-append}
use Rattle.std.proofs.lemmas.List.{append-nil, take_all}
use Rattle.std.proofs.lemmas.List.Concat.{flat_map-cons}
use Rattle.std.proofs.lemmas.List.Folds.{list_any-append}
use Rattle.std.proofs.lemmas.Option.{slice_get_cases, slice_get_within, get_or_from_slice_get}
use Rattle.wt_grammar.specs.Statements.{File, Statement}
use Rattle.wt_io.proofs.Written.{append_known-twice}
use Rattle.wt_lines.specs.declared.line.Line.{Line}
use Rattle.wt_lines.specs.Lines.{AreLines, IsStatementLine, any_refused, lines_text}
use Rattle.wt_outcome.specs.declared.stop.Stop.{Stop}
use Rattle.wt_outcome.specs.declared.stop.Stop.TheVariants.{Memory}
use Rattle.wt_outcome.specs.Outcomes.{AppendsPrefix, Stops}
use Rattle.wt_outcome.proofs.Putting.{append_known-nil, stops_after, whole_prefix}
use Rattle.wt_rewriting.specs.Making.{AreBetween, Between}
use Rattle.wt_rewriting.specs.declared.making.Made.{Made}
use Rattle.wt_rule.specs.declared.Rule.{Rule}
use Rattle.wt_schema.specs.declared.schema.Table.{Table}

-- there is an element at a place within a list
pub some_at : {A : Type 0} (xs : List A) (i : ℕ) → i < length xs → (x : A) × (slice_get xs i ≡ Some x)
some_at xs i within = elim (slice_get_cases xs i).1 [ inl h ↦ (h.0, h.2) | inr h ↦ absurd (omega (arith, within, h.0)) ]

-- the first elements and the next one
one_more : {A : Type 0} (xs : List A) (i : ℕ) (x : A) → slice_get xs i ≡ Some x → take (i + 1) xs ≡ take i xs ++ x ∷ []
one_more xs i x at =
    ap (λ n. take n xs) (add-one i) ∙ (take-suc xs i x (slice_get_within xs i x at) ∙ ap (λ y. take i xs ++ y ∷ []) (get_or_from_slice_get xs i x x at))

text_both : (lines more : List Line) → lines_text (lines ++ more) ≡ lines_text lines ++ lines_text more
text_both lines more = flat_map-append (λ (l : Line). l.text) lines more

refused_both : (lines more : List Line) → any_refused (lines ++ more) ≡ (any_refused lines || any_refused more)
refused_both lines more = list_any-append (λ (l : Line). l.refused) lines more

module _ (tables : List Table) (rules : List Rule) where
  lines_both : (bytes : List ℕ) (xs ys : List Statement) (lines more : List Line) → AreLines tables rules bytes xs lines → AreLines tables rules bytes ys more
      → AreLines tables rules bytes (xs ++ ys) (lines ++ more)
  lines_both bytes [] ys [] more h k = k
  lines_both bytes [] ys (l ∷ lines) more h k = absurd h
  lines_both bytes (x ∷ xs) ys [] more h k = absurd h
  lines_both bytes (x ∷ xs) ys (l ∷ lines) more h k = (h.0, lines_both bytes xs ys lines more h.1 k)

  module _ (file : File) where
    -- of no statements
    pub none_between : (i : ℕ) → Between tables rules file i i [] false
    none_between i = record { statements = []; lines = []; place = append-nil (take i file.statements); are = tt; text_is = refl; refused_is = refl }

    -- of the next statement
    pub one_between : (i : ℕ) (s : Statement) (line : Line) → slice_get file.statements i ≡ Some s → IsStatementLine tables rules file.bytes s line → Between tables rules file i (i + 1) line.text line.refused
    one_between i s line at is = record {
      statements = s ∷ [];
      lines = line ∷ [];
      place = sym (one_more file.statements i s at);
      are = (is, tt);
      text_is = sym (flat_map-cons (λ (l : Line). l.text) line [] ∙ append-nil line.text);
      refused_is = sym (or-false line.refused);
    }

    -- of some statements and of those behind them
    pub both_between : (i j k : ℕ) (text more : List ℕ) (some any : Bool) → Between tables rules file i j text some → Between tables rules file j k more any
        → Between tables rules file i k (text ++ more) (some || any)
    both_between i j k text more some any a b = record {
      statements = a.statements ++ b.statements;
      lines = a.lines ++ b.lines;
      place = sym (append_assoc (take i file.statements) a.statements b.statements) ∙ ap (λ xs. xs ++ b.statements) a.place ∙ b.place;
      are = lines_both file.bytes a.statements b.statements a.lines b.lines a.are b.are;
      text_is = ap₂ ◌++◌ a.text_is b.text_is ∙ sym (text_both a.lines b.lines);
      refused_is = ap₂ ◌||◌ a.refused_is b.refused_is ∙ sym (refused_both a.lines b.lines);
    }

    pub made_both : {E : Type 0} (i j k : ℕ) (x y : Made) (r : Result Made E) → IfOk r (λ all. all.text.items ≡ x.text.items ++ y.text.items) → IfOk r (λ all. all.refused ≡ (x.refused || y.refused))
        → AreBetween tables rules file i j x → AreBetween tables rules file j k y → IfOk r (AreBetween tables rules file i k)
    made_both i j k x y (Ok all) text refused a b = rw (text, refused) (both_between i j k x.text.items y.text.items x.refused y.refused a b)
    made_both i j k x y (Err e) text refused a b = tt

    -- of a file's first statements: they are these
    first_are : (n : ℕ) (text : List ℕ) (some : Bool) (b : Between tables rules file 0 n text some) → AreLines tables rules file.bytes (take n file.statements) b.lines
    first_are n text some b = subst (λ xs. AreLines tables rules file.bytes xs b.lines) b.place b.are

    -- the lines of the first statements were put, and no others
    pub record SoFar (n : ℕ) (old new : Option (List ℕ)) (refused : Bool) : Type 0 where
      pub text : List ℕ
      pub made : Between tables rules file 0 n text refused
      pub put : new ≡ append_known old text

    pub none_so_far : (old : Option (List ℕ)) → SoFar 0 old old false
    none_so_far old = record { text = []; made = none_between 0; put = sym (append_known-nil old) }

    -- those of more statements were put
    pub more_so_far : (i j : ℕ) (old mid new : Option (List ℕ)) (text : List ℕ) (some any : Bool) → SoFar i old mid some → Between tables rules file i j text any → new ≡ append_known mid text
        → SoFar j old new (some || any)
    more_so_far i j old mid new text some any so_far b put = record {
      text = so_far.text ++ text;
      made = both_between 0 i j so_far.text text some any so_far.made b;
      put = put ∙ ap (λ m. append_known m text) so_far.put ∙ append_known-twice old so_far.text text;
    }

    -- want of memory behind the first lines
    pub stops_here : (i : ℕ) (rose : Type 0) (old new : Option (List ℕ)) (refused : Bool) → SoFar i old new refused
        → (n : ℕ) × (lines : List Line) × AreLines tables rules file.bytes (take n file.statements) lines × Stops ⊥ rose old new (lines_text lines) Memory
    stops_here i rose old new refused so_far = (
      i,
      so_far.made.lines,
      first_are i so_far.text refused so_far.made,
      subst (AppendsPrefix old new) so_far.made.text_is (whole_prefix old new so_far.text so_far.put),
    )

    -- a stop while more lines are put
    pub more_stops : (i j : ℕ) (rose rose' : Type 0) → (rose → rose') → (old mid new : Option (List ℕ)) (text : List ℕ) (some any : Bool) (stop : Stop) → SoFar i old mid some → Between tables rules file i j text any
        → Stops ⊥ rose mid new text stop
        → (n : ℕ) × (lines : List Line) × AreLines tables rules file.bytes (take n file.statements) lines × Stops ⊥ rose' old new (lines_text lines) stop
    more_stops i j rose rose' later old mid new text some any stop so_far b h =
        let whole = both_between 0 i j so_far.text text some any so_far.made b in (
          j,
          whole.lines,
          first_are j (so_far.text ++ text) (some || any) whole,
          subst (λ t. Stops ⊥ rose' old new t stop) (ap (λ t. so_far.text ++ t) (append-nil text) ∙ whole.text_is)
              (stops_after rose rose' later old mid new so_far.text text [] so_far.put stop h),
        )

    -- all lines were put
    pub all_put : (i : ℕ) (old new : Option (List ℕ)) (refused : Bool) → length file.statements ≤ i → SoFar i old new refused
        → (lines : List Line) × AreLines tables rules file.bytes file.statements lines × (new ≡ append_known old (lines_text lines)) × (refused ≡ any_refused lines)
    all_put i old new refused all so_far = (
      so_far.made.lines,
      subst (λ xs. AreLines tables rules file.bytes xs so_far.made.lines) (take_all i file.statements all) (first_are i so_far.text refused so_far.made),
      so_far.put ∙ ap (append_known old) so_far.made.text_is,
      so_far.made.refused_is,
    )
