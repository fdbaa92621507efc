-- Bytes fall into those of which a test holds and the others; into what stands between quotes and the rest; into what stands
-- before the first end of a comment and the rest.
use Rattle.std.proofs.Common.{◌≡◌, ℕ, suc, ◌+◌, ◌<◌, Bool, true, false, ◌⊎◌, inl, inr, List, [], ◌∷◌, ◌++◌, length, drop, length-drop, refl, ap, sym, ◌∙◌, arith, Some, None}
use Rattle.std.specs.Prelude.{◌≢◌, if◌then◌else◌, ◌==◌, ◌&&◌, not, slice_index}
use Rattle.std.specs.List.{list_all, prefix_len}
use Rattle.std.proofs.lemmas.Bool.Decides.{nat_tests}
use Rattle.std.proofs.lemmas.List.{drop_more, drop-drop, get_or-drop}
use Rattle.wt_lex.specs.Fronts.{closing, comment_end}
use Rattle.wt_lex.specs.Spelling.{EndsBefore, Are, HasNoEnd, doubled}

-- ---- bytes of which a test holds

pub are_cons : (test : ℕ → Bool) (b : ℕ) (w : List ℕ) → test b ≡ true → Are test w → Are test (b ∷ w)
are_cons test b w h k = ap (λ t. t && list_all test w) h ∙ k

pub are_parts : (test : ℕ → Bool) (b : ℕ) (w : List ℕ) → Are test (b ∷ w) → (test b ≡ true) × Are test w
are_parts test b w = by (test b) (list_all test w)
  where
    by : (s t : Bool) → (s && t) ≡ true → (s ≡ true) × (t ≡ true)
    by true t e = (refl, e)
    by false t e = absurd cc

abbrev pub Run : (ℕ → Bool) → List ℕ → Type 0
Run test z = (w : List ℕ) × (rest : List ℕ) × (z ≡ w ++ rest) × Are test w × EndsBefore test rest

pub run_of : (test : ℕ → Bool) (z : List ℕ) → Run test z
run_of test [] = ([], [], refl, refl, tt)
run_of test (b ∷ z) = by (test b) refl (run_of test z)
  where
    by : (t : Bool) → test b ≡ t → Run test z → Run test (b ∷ z)
    by true h (w, rest, e, all, ends) = (b ∷ w, rest, ap (λ l. b ∷ l) e, are_cons test b w h all, ends)
    by false h r = ([], b ∷ z, refl, refl, h)

pub run_length : (test : ℕ → Bool) (w rest : List ℕ) → Are test w → EndsBefore test rest → prefix_len test (w ++ rest) ≡ length w
run_length test [] [] all ends = refl
run_length test [] (b ∷ rest) all ends = rw ends
run_length test (b ∷ w) rest all ends =
    let (h, others) = are_parts test b w all in
    rw (h, run_length test w rest others ends) (omega arith)

-- ---- quotes

pub same_quote : (q : ℕ) → (q == q) ≡ true
same_quote q = grind (arith, nat_tests)

pub quote_is : (b q : ℕ) → (b == q) ≡ true → b ≡ q
quote_is b q h = grind (arith, nat_tests)

pub doubled_quote : (q b : ℕ) (bs : List ℕ) → (b == q) ≡ true → doubled q (b ∷ bs) ≡ b ∷ b ∷ doubled q bs
doubled_quote q b bs e = ap (λ t. if t then b ∷ b ∷ doubled q bs else b ∷ doubled q bs) e

pub doubled_other : (q b : ℕ) (bs : List ℕ) → (b == q) ≡ false → doubled q (b ∷ bs) ≡ b ∷ doubled q bs
doubled_other q b bs e = ap (λ t. if t then b ∷ b ∷ doubled q bs else b ∷ doubled q bs) e

-- the quotes of z stand in pairs, or one closes
abbrev pub Quotes : ℕ → List ℕ → Type 0
Quotes q z =
    ((bs : List ℕ) × (z ≡ doubled q bs))
    ⊎ ((bs : List ℕ) × (rest : List ℕ) × (z ≡ doubled q bs ++ q ∷ rest) × EndsBefore (λ b. b == q) rest)

other_more : (q b : ℕ) (z : List ℕ) → (b == q) ≡ false → Quotes q z → Quotes q (b ∷ z)
other_more q b z h (inl (bs, e)) = inl (b ∷ bs, ap (λ l. b ∷ l) e ∙ sym (doubled_other q b bs h))
other_more q b z h (inr (bs, rest, e, ends)) = inr (b ∷ bs, rest, ap (λ l. b ∷ l) e ∙ ap (λ l. l ++ q ∷ rest) (sym (doubled_other q b bs h)), ends)

pair_more : (q b c : ℕ) (z : List ℕ) → (b == q) ≡ true → (c == q) ≡ true → Quotes q z → Quotes q (b ∷ c ∷ z)
pair_more q b c z h g r = by r
  where
    same : c ≡ b
    same = quote_is c q g ∙ sym (quote_is b q h)

    by : Quotes q z → Quotes q (b ∷ c ∷ z)
    by (inl (bs, e)) = inl (b ∷ bs, (λ i. b ∷ same i ∷ e i) ∙ sym (doubled_quote q b bs h))
    by (inr (bs, rest, e, ends)) = inr (b ∷ bs, rest, (λ i. b ∷ same i ∷ e i) ∙ ap (λ l. l ++ q ∷ rest) (sym (doubled_quote q b bs h)), ends)

pub quotes_of : (q : ℕ) (z : List ℕ) → Quotes q z
quotes_of q [] = inl ([], refl)
quotes_of q (b ∷ []) = by (b == q) refl
  where
    by : (t : Bool) → (b == q) ≡ t → Quotes q (b ∷ [])
    by true h = inr ([], [], ap (λ k. k ∷ []) (quote_is b q h), tt)
    by false h = other_more q b [] h (inl ([], refl))
quotes_of q (b ∷ c ∷ z) = by (quotes_of q (c ∷ z)) (quotes_of q z) (b == q) refl (c == q) refl
  where
    by : Quotes q (c ∷ z) → Quotes q z → (t : Bool) → (b == q) ≡ t → (s : Bool) → (c == q) ≡ s → Quotes q (b ∷ c ∷ z)
    by one two true h true g = pair_more q b c z h g two
    by one two true h false g = inr ([], c ∷ z, ap (λ k. k ∷ c ∷ z) (quote_is b q h), g)
    by one two false h s g = other_more q b (c ∷ z) h one

closing_end : (q at : ℕ) (rest : List ℕ) → EndsBefore (λ b. b == q) rest → closing q true at rest ≡ Some at
closing_end q at [] h = refl
closing_end q at (b ∷ rest) h = rw h

-- the quotes inside are passed in pairs
pub closing_doubled : (q at : ℕ) (bs rest : List ℕ) → EndsBefore (λ b. b == q) rest → closing q false at (doubled q bs ++ q ∷ rest) ≡ Some (at + length (doubled q bs) + 1)
closing_doubled q at [] rest h = ap (λ t. closing q t (at + 1) rest) (same_quote q) ∙ closing_end q (at + 1) rest h ∙ ap Some (omega arith)
closing_doubled q at (b ∷ bs) rest h = by (λ at. closing_doubled q at bs rest h) (b == q) refl
  where
    by : ((at : ℕ) → closing q false at (doubled q bs ++ q ∷ rest) ≡ Some (at + length (doubled q bs) + 1)) → (t : Bool) → (b == q) ≡ t
        → closing q false at (doubled q (b ∷ bs) ++ q ∷ rest) ≡ Some (at + length (doubled q (b ∷ bs)) + 1)
    by ih true e =
        let d = doubled_quote q b bs e in
        ap (λ l. closing q false at (l ++ q ∷ rest)) d
        ∙ ap (λ t. closing q t (at + 1) (b ∷ (doubled q bs ++ q ∷ rest))) e
        ∙ ap (λ t. if t then closing q false (at + 1 + 1) (doubled q bs ++ q ∷ rest) else Some (at + 1)) e
        ∙ ih (at + 1 + 1)
        ∙ ap Some (omega (arith, ap length d))
    by ih false e =
        let d = doubled_other q b bs e in
        ap (λ l. closing q false at (l ++ q ∷ rest)) d
        ∙ ap (λ t. closing q t (at + 1) (doubled q bs ++ q ∷ rest)) e
        ∙ ih (at + 1)
        ∙ ap Some (omega (arith, ap length d))

pub closing_open : (q at : ℕ) (bs : List ℕ) → closing q false at (doubled q bs) ≡ None
closing_open q at [] = refl
closing_open q at (b ∷ bs) = by (λ at. closing_open q at bs) (b == q) refl
  where
    by : ((at : ℕ) → closing q false at (doubled q bs) ≡ None) → (t : Bool) → (b == q) ≡ t → closing q false at (doubled q (b ∷ bs)) ≡ None
    by ih true e =
        ap (closing q false at) (doubled_quote q b bs e)
        ∙ ap (λ t. closing q t (at + 1) (b ∷ doubled q bs)) e
        ∙ ap (λ t. if t then closing q false (at + 1 + 1) (doubled q bs) else Some (at + 1)) e
        ∙ ih (at + 1 + 1)
    by ih false e =
        ap (closing q false at) (doubled_other q b bs e)
        ∙ ap (λ t. closing q t (at + 1) (doubled q bs)) e
        ∙ ih (at + 1)

-- ---- comments

no_end_tail : (b : ℕ) (w : List ℕ) → HasNoEnd (b ∷ w) → HasNoEnd w
no_end_tail b w h a c e = h (b ∷ a) c (ap (λ l. b ∷ l) e)

no_end_cons : (b c : ℕ) (w : List ℕ) → (b ≡ 42 → c ≡ 47 → ⊥) → HasNoEnd (c ∷ w) → HasNoEnd (b ∷ c ∷ w)
no_end_cons b c w none h [] z e = let f : b ≡ 42 = cc in let g : c ≡ 47 = cc in none f g
no_end_cons b c w none h (x ∷ a) z e = let f : c ∷ w ≡ a ++ 42 ∷ 47 ∷ z = cc in h a z f

no_end_one : (b : ℕ) → HasNoEnd (b ∷ [])
no_end_one b [] z e = cc
no_end_one b (x ∷ []) z e = cc
no_end_one b (x ∷ y ∷ a) z e = cc

no_end_none : HasNoEnd []
no_end_none [] z e = cc
no_end_none (x ∷ a) z e = cc

-- none closes, or one closes first
abbrev pub Comment : List ℕ → Type 0
Comment z = HasNoEnd z ⊎ ((c : List ℕ) × (rest : List ℕ) × (z ≡ c ++ 42 ∷ 47 ∷ rest) × HasNoEnd (c ++ 42 ∷ []))

comment_next : (b d : ℕ) (z : List ℕ) → (b ≡ 42 → d ≡ 47 → ⊥) → Comment (d ∷ z) → Comment (b ∷ d ∷ z)
comment_next b d z none (inl h) = inl (no_end_cons b d z none h)
comment_next b d z none (inr ([], rest, e, h)) = inr (b ∷ [], rest, ap (λ l. b ∷ l) e, no_end_cons b 42 [] (λ x y. absurd (omega (arith, y))) (no_end_one 42))
comment_next b d z none (inr (x ∷ c, rest, e, h)) =
    let f : d ≡ x = cc in inr (b ∷ x ∷ c, rest, ap (λ l. b ∷ l) e, no_end_cons b x (c ++ 42 ∷ []) (λ g i. none g (f ∙ i)) h)

is_no : (b c : ℕ) → (b == c) ≡ false → b ≡ c → ⊥
is_no b c h e = let n : (b == c) ≡ true = grind (arith, nat_tests) in cc

comment_by : (b d : ℕ) (z : List ℕ) → Comment (d ∷ z) → (t : Bool) → (b == 42) ≡ t → (s : Bool) → (d == 47) ≡ s → Comment (b ∷ d ∷ z)
comment_by b d z r true h true g = inr ([], z, (λ i. quote_is b 42 h i ∷ quote_is d 47 g i ∷ z), no_end_one 42)
comment_by b d z r true h false g = comment_next b d z (λ e f. is_no d 47 g f) r
comment_by b d z r false h s g = comment_next b d z (λ e f. is_no b 42 h e) r

pub comment_of : (z : List ℕ) → Comment z
comment_of [] = inl no_end_none
comment_of (b ∷ z) = one z (comment_of z)
  where
    one : (z : List ℕ) → Comment z → Comment (b ∷ z)
    one [] r = inl (no_end_one b)
    one (d ∷ y) r = comment_by b d y r (b == 42) refl (d == 47) refl

-- a `*` in front, where the byte before was one
abbrev pub starred : Bool → List ℕ → List ℕ
starred true z = 42 ∷ z
starred false z = z

-- one step into a comment, which does not close with it
not_closed : (star : Bool) (b : ℕ) (z : List ℕ) → HasNoEnd (starred star (b ∷ z)) → (star && b == 47) ≡ false
not_closed false b z h = refl
not_closed true b z h = by (b == 47) refl
  where
    by : (t : Bool) → (b == 47) ≡ t → t ≡ false
    by false e = refl
    by true e = absurd (h [] z (ap (λ k. 42 ∷ k ∷ z) (quote_is b 47 e)))

star_next : (star : Bool) (b : ℕ) (z : List ℕ) → HasNoEnd (starred star (b ∷ z)) → (t : Bool) → (b == 42) ≡ t → HasNoEnd (starred t z)
star_next false b z h true e = let f = quote_is b 42 e in λ a c g. h a c (ap (λ k. k ∷ z) f ∙ g)
star_next true b z h true e = let f = quote_is b 42 e in λ a c g. h (42 ∷ a) c (ap (λ k. 42 ∷ k ∷ z) f ∙ ap (λ l. 42 ∷ l) g)
star_next false b z h false e = no_end_tail b z h
star_next true b z h false e = no_end_tail b z (no_end_tail 42 (b ∷ z) h)

pub comment_closes : (star : Bool) (at : ℕ) (c rest : List ℕ) → HasNoEnd (starred star (c ++ 42 ∷ [])) → comment_end star at (c ++ 42 ∷ 47 ∷ rest) ≡ Some (at + length c + 2)
comment_closes star at [] rest h =
    ap (λ t. if t then Some (at + 1) else comment_end true (at + 1) (47 ∷ rest)) (not_closed star 42 [] h) ∙ ap Some (omega arith)
comment_closes star at (b ∷ c) rest h =
    ap (λ t. if t then Some (at + 1) else comment_end (b == 42) (at + 1) (c ++ 42 ∷ 47 ∷ rest)) (not_closed star b (c ++ 42 ∷ []) h)
    ∙ comment_closes (b == 42) (at + 1) c rest (star_next star b (c ++ 42 ∷ []) h (b == 42) refl)
    ∙ ap Some (omega arith)

pub comment_open : (star : Bool) (at : ℕ) (z : List ℕ) → HasNoEnd (starred star z) → comment_end star at z ≡ None
comment_open star at [] h = refl
comment_open star at (b ∷ z) h =
    ap (λ t. if t then Some (at + 1) else comment_end (b == 42) (at + 1) z) (not_closed star b z h)
    ∙ comment_open (b == 42) (at + 1) z (star_next star b z h (b == 42) refl)

-- ---- bytes of a comment that are no `*` do not close it

abbrev no_star : ℕ → Bool
no_star b = not (b == 42)

one_more : (b : ℕ) (z : List ℕ) → (b == 42) ≡ false → prefix_len no_star (b ∷ z) ≡ suc (prefix_len no_star z)
one_more b z e = ap (λ t. if not t then 1 + prefix_len no_star z else 0) e ∙ omega arith

none_more : (b : ℕ) (z : List ℕ) → (b == 42) ≡ true → prefix_len no_star (b ∷ z) ≡ 0
none_more b z e = ap (λ t. if not t then 1 + prefix_len no_star z else 0) e

pub pass_over : (at : ℕ) (z : List ℕ) → comment_end false (at + prefix_len (λ b. not (b == 42)) z) (drop (prefix_len (λ b. not (b == 42)) z) z) ≡ comment_end false at z
pass_over at [] = refl
pass_over at (b ∷ z) = by (b == 42) refl (pass_over (at + 1) z)
  where
    by : (t : Bool) → (b == 42) ≡ t → comment_end false (at + 1 + prefix_len no_star z) (drop (prefix_len no_star z) z) ≡ comment_end false (at + 1) z
        → comment_end false (at + prefix_len no_star (b ∷ z)) (drop (prefix_len no_star (b ∷ z)) (b ∷ z)) ≡ comment_end false at (b ∷ z)
    by true e ih = ap (λ n. comment_end false (at + n) (drop n (b ∷ z))) (none_more b z e) ∙ ap (λ n. comment_end false n (b ∷ z)) {x = at + 0} {y = at} (omega arith)
    by false e ih =
        ap (λ n. comment_end false (at + n) (drop n (b ∷ z))) (one_more b z e)
        ∙ ap (λ n. comment_end false n (drop (prefix_len no_star z) z)) {x = at + suc (prefix_len no_star z)} {y = at + 1 + prefix_len no_star z} (omega arith)
        ∙ ih ∙ ap (λ t. comment_end t (at + 1) z) (sym e)

-- and a `*` stands behind them
pub star_behind : (z : List ℕ) → prefix_len (λ b. not (b == 42)) z < length z → slice_index z (prefix_len (λ b. not (b == 42)) z) ≡ 42
star_behind [] h = absurd (omega arith)
star_behind (b ∷ z) h = by (b == 42) refl (star_behind z)
  where
    by : (t : Bool) → (b == 42) ≡ t → (prefix_len no_star z < length z → slice_index z (prefix_len no_star z) ≡ 42) → slice_index (b ∷ z) (prefix_len no_star (b ∷ z)) ≡ 42
    by true e ih = ap (slice_index (b ∷ z)) (none_more b z e) ∙ quote_is b 42 e
    by false e ih = let n = one_more b z e in ap (slice_index (b ∷ z)) n ∙ ih (omega (arith, h, n))

-- a `*` closes where a `/` follows, and else nothing has changed behind it
pub star_closes : (at : ℕ) (z : List ℕ) → slice_index z 0 ≡ 47 → comment_end true at z ≡ Some (at + 1)
star_closes at [] h = absurd (omega (arith, h))
star_closes at (b ∷ z) h = ap (λ b. comment_end true at (b ∷ z)) h

pub star_goes_on : (at : ℕ) (z : List ℕ) → slice_index z 0 ≢ 47 → comment_end true at z ≡ comment_end false at z
star_goes_on at [] h = refl
star_goes_on at (b ∷ z) h = let e : (b == 47) ≡ false = grind (arith, nat_tests) in rw e

-- from one `*` that does not close to the next
pub next_star : (at k : ℕ) (text : List ℕ) → at < length text → slice_index text at ≡ 42 → slice_index text (at + 1) ≢ 47 → k ≡ prefix_len (λ b. not (b == 42)) (drop (at + 1) text)
    → comment_end false (2 + (at + (1 + k))) (drop (at + (1 + k)) text) ≡ comment_end false (2 + at) (drop at text)
next_star at k text within star follows e =
    let z = drop (at + 1) text in
    let whole : drop at text ≡ 42 ∷ z = drop_more text at 0 within ∙ ap (λ b. b ∷ z) star in
    let front : slice_index z 0 ≢ 47 = λ h. follows (ap (slice_index text) {y = at + 1 + 0} (omega arith) ∙ sym (get_or-drop (at + 1) text 0 0) ∙ h) in
    ap (λ n. comment_end false (2 + n) (drop n text)) {x = at + (1 + k)} {y = at + 1 + k} (omega arith)
    ∙ ap (comment_end false (2 + (at + 1 + k))) (sym (drop-drop k (at + 1) text))
    ∙ ap (λ n. comment_end false (2 + (at + 1 + n)) (drop n z)) e
    ∙ ap (λ n. comment_end false n (drop (prefix_len no_star z) z)) {x = 2 + (at + 1 + prefix_len no_star z)} {y = 2 + at + 1 + prefix_len no_star z} (omega arith)
    ∙ pass_over (2 + at + 1) z
    ∙ sym (star_goes_on (2 + at + 1) z front)
    ∙ ap (comment_end false (2 + at)) (sym whole)

pub next_is_star : (at k : ℕ) (text : List ℕ) → k ≡ prefix_len (λ b. not (b == 42)) (drop (at + 1) text) → at + (1 + k) < length text → slice_index text (at + (1 + k)) ≡ 42
next_is_star at k text e within =
    ap (slice_index text) {y = at + 1 + k} (omega arith) ∙ sym (get_or-drop (at + 1) text k 0) ∙ ap (slice_index (drop (at + 1) text)) e
    ∙ star_behind (drop (at + 1) text) (omega (arith, within, e, length-drop (at + 1) text))
