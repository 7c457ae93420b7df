-- Laws of the lines of a text: what is read of a line that gives a value is that line, and where the next one begins. A key
-- is a text without a line feed. Assumes nothing.
use mathlib.Core.Path.{◌≡◌, refl, sym, ap, ◌∙◌}
use mathlib.Core.Bool.{Bool, true, false, not, cond, ◌&&◌, and-eq-true_iff}
use mathlib.Core.List.{List, [], ◌∷◌, ◌++◌, append_assoc}
use Prim.Native.Nat.{ℕ, ◌+◌, ◌≤◌}
use native.Mathlib.Numerals.{add-one}
use native.Mathlib.Omega.{arith}
use lib.Dec.{eqb}
use lib.ListN.{length, drop, length-append, length-drop, drop_of_length-le}
use lib.Seq.{drop-drop, drop-append_seam}
use borrow.Author.Tests.{leb-true, le-leb, ne_eqb}
use Rattle.std.specs.Prelude.{Some, None}
use Rattle.decimal.specs.Digits.{is_digit, all_digits, plain, is_decimal, value}
use Rattle.decimal.specs.Bytes.{line_feed, has_at}
use Rattle.decimal.specs.Reading.{run, cut, decimal_at, reading_at, field_at}
use Rattle.decimal.proofs.DigitsLaws.{decimal_digits, all_first, digit_range}
use Rattle.decimal.proofs.BytesLaws.{starts_with_lem, with_start}
use Rattle.decimal.proofs.FieldLaws.{field_read, read_field, field_splits}
use Rattle.diagram_file.specs.Lines.{most_value, first_line, one_line, GivesValue, line_start, line, LineGives, read_after, formed_at, line_said, line_at, formed, value_of}
use Rattle.diagram_file.specs.declared.Line.{Line}

-- ---- the first line of a text

one_line_first : (b : ℕ) (bs : List ℕ) → one_line (b ∷ bs) ≡ true → (eqb b line_feed ≡ false) × (one_line bs ≡ true)
unfolding one_line
one_line_first b bs h = go (eqb b line_feed) refl h
  where
    go : (t : Bool) → eqb b line_feed ≡ t → (not t && one_line bs) ≡ true → (eqb b line_feed ≡ false) × (one_line bs ≡ true)
    go true e k = let z : ◌≡◌ {A = ℕ} 0 1 = cc in absurd (omega arith)
    go false e k = (e, k)

-- a line feed ends it
ends_line : (xs rest : List ℕ) → one_line xs ≡ true → first_line (xs ++ (line_feed ∷ rest)) ≡ xs ++ (line_feed ∷ [])
unfolding first_line
ends_line [] rest h = refl
ends_line (x ∷ xs) rest h = let w = one_line_first x xs h in rw w.0 (ap (λ (l : List ℕ). x ∷ l) (ends_line xs rest w.1))

-- the text is its first line, and then the rest
line_split : (s : List ℕ) → s ≡ first_line s ++ drop (length (first_line s)) s
unfolding first_line
line_split [] = refl
line_split (b ∷ bs) = go (eqb b line_feed) (line_split bs)
  where
    go : (t : Bool) → bs ≡ first_line bs ++ drop (length (first_line bs)) bs → b ∷ bs ≡ b ∷ (cond t [] (first_line bs) ++ drop (length (cond t [] (first_line bs))) bs)
    go true e = refl
    go false e = ap (λ (l : List ℕ). b ∷ l) e

one_line_append : (xs ys : List ℕ) → one_line xs ≡ true → one_line ys ≡ true → one_line (xs ++ ys) ≡ true
unfolding one_line
one_line_append [] ys h k = k
one_line_append (x ∷ xs) ys h k = let w = one_line_first x xs h in rw w.0 (one_line_append xs ys w.1 k)

digits_one_line : (ds : List ℕ) → all_digits ds ≡ true → one_line ds ≡ true
unfolding one_line
digits_one_line [] h = refl
digits_one_line (d ∷ ds) h =
    let w = all_first d ds h in
    let r = digit_range d w.0 in
    rw (ne_eqb d line_feed (λ e. omega arith)) (digits_one_line ds w.1)

-- a decimal has a byte
decimal_pos : (ds : List ℕ) → is_decimal ds ≡ true → 1 ≤ length ds
unfolding is_decimal all_digits plain
decimal_pos [] h = let z : ◌≡◌ {A = ℕ} 0 1 = cc in absurd (omega arith)
decimal_pos (d ∷ ds) h = omega arith

-- ---- what stands from an index of the text on, and what is read there

module _ (text key : List ℕ) (at : ℕ) where
  -- the key, the decimal ds of a value, a line feed, and the rest
  pub record Stand (ds rest : List ℕ) : Type 0 where
    pub bytes : drop at text ≡ key ++ (ds ++ (line_feed ∷ rest))
    pub decimal : is_decimal ds ≡ true
    pub fits : value ds ≤ most_value

  -- what is read of it
  pub record Says (ds : List ℕ) : Type 0 where
    pub is_formed : formed_at text key at ≡ true
    pub gives : (read_after text key at).value ≡ value ds
    pub ends : (read_after text key at).end ≡ at + length key + length ds

  stand_says : (ds rest : List ℕ) → Stand ds rest → Says ds
  unfolding formed_at is_digit
  stand_says ds rest s =
      let k : has_at text at key ≡ true = rw s.bytes (with_start key _) in
      let e : drop (at + length key) text ≡ ds ++ (line_feed ∷ rest) = sym (drop-drop (length key) at text) ∙ ap (drop (length key)) s.bytes ∙ drop-append_seam key _ in
      let f = field_read text (at + length key) line_feed ds rest s.decimal refl e in
      let m : cut (value ds) ≡ value ds = omega (arith, s.fits) in
      record {
        is_formed = rw (k, f.0, s.decimal, f.1, m, le-leb (value ds) most_value s.fits);
        gives = rw f.0 m;
        ends = rw f.0;
      }

  pub formed_stands : formed_at text key at ≡ true → (ds : List ℕ) × (rest : List ℕ) × Stand ds rest × Says ds
  unfolding formed_at
  formed_stands h =
      let a = (and-eq-true_iff (has_at text at key) _).0 h in
      let b = (and-eq-true_iff (field_at text (reading_at text (at + length key)) line_feed) _).0 a.1 in
      let f = (and-eq-true_iff (decimal_at text (at + length key)) _).0 (sym (field_splits text (at + length key) line_feed) ∙ b.0) in
      let ds : List ℕ = run (drop (at + length key) text) in
      let rest : List ℕ = drop (at + length key + length ds + 1) text in
      let m : cut (value ds) ≤ most_value = leb-true _ _ b.1 in
      let s : Stand ds rest
      = record {
        bytes = starts_with_lem key (drop at text) a.0 ∙ ap (λ (l : List ℕ). key ++ l) (drop-drop (length key) at text ∙ read_field text (at + length key) line_feed f.1);
        decimal = f.0;
        fits = omega arith;
      } in
      (ds, rest, s, stand_says ds rest s)

  -- a line that was read lies inside the text, and has two bytes at least
  pub formed_inside : formed_at text key at ≡ true → ((read_after text key at).end + 1 ≤ length text) × (at + 2 ≤ (read_after text key at).end + 1) × ((read_after text key at).value ≤ most_value)
  formed_inside h =
      let w = formed_stands h in
      let s = w.2 in
      let r = w.3 in
      let n = decimal_pos w.0 s.decimal in
      let e = simp (length-append, length-drop) at (ap length s.bytes) in
      (omega (arith, r.ends), omega (arith, r.ends), omega (arith, r.gives, s.fits))

-- ---- the lines

module _ (text key : List ℕ) (one : one_line key ≡ true) (k : ℕ) where
  stand_line : (ds rest : List ℕ) → Stand text key (line_start text k) ds rest → line text k ≡ key ++ (ds ++ (line_feed ∷ []))
  stand_line ds rest s =
      ap first_line (s.bytes ∙ sym (append_assoc key ds (line_feed ∷ rest)))
      ∙ ends_line (key ++ ds) rest (one_line_append key ds one (digits_one_line ds (decimal_digits ds s.decimal)))
      ∙ append_assoc key ds (line_feed ∷ [])

  -- a line gives a value exactly where it is read so; and the value is the one that is read
  pub formed_gives : formed text key k ≡ true → LineGives text key k
  formed_gives h = let w = formed_stands text key (line_start text k) h in let s = w.2 in (w.0, record { is_line = stand_line w.0 w.1 s; decimal = s.decimal; fits = s.fits })

  gives_says : (ds : List ℕ) → GivesValue (line text k) key ds → Says text key (line_start text k) ds
  gives_says ds g =
      let at : ℕ = line_start text k in
      let rest : List ℕ = drop (length (line text k)) (drop at text) in
      stand_says text key at ds rest
      (record {
        bytes = line_split (drop at text) ∙ ap (λ (l : List ℕ). l ++ rest) g.is_line ∙ append_assoc key (ds ++ (line_feed ∷ [])) rest ∙ ap (λ (l : List ℕ). key ++ l) (append_assoc ds (line_feed ∷ []) rest);
        decimal = g.decimal;
        fits = g.fits;
      })

  pub gives_formed : LineGives text key k → formed text key k ≡ true
  gives_formed w = (gives_says w.0 w.1).is_formed

  pub gives_value : (ds : List ℕ) → GivesValue (line text k) key ds → value_of text key k ≡ value ds
  unfolding value_of
  gives_value ds g = (gives_says ds g).gives

  -- where the next line begins
  next_start : formed text key k ≡ true → line_start text (k + 1) ≡ (read_after text key (line_start text k)).end + 1
  unfolding line_start
  next_start h =
      let w = formed_stands text key (line_start text k) h in
      let e = simp length-append at (ap length (stand_line w.0 w.1 w.2)) in
      rw (add-one k) (omega (arith, w.3.ends))

-- ---- what is read of the lines one after the other

-- there is a line exactly where the form is found
pub line_none : (text key : List ℕ) (at : ℕ) → None ≡ line_at text key at → formed_at text key at ≡ false
unfolding line_at
line_none text key at e = go (formed_at text key at) e
  where
    go : (t : Bool) → None ≡ cond t (Some (line_said text key at)) None → t ≡ false
    go true k = cc
    go false k = refl

pub line_some : (text key : List ℕ) (at : ℕ) (l : Line) → Some l ≡ line_at text key at → (formed_at text key at ≡ true) × (l ≡ line_said text key at)
unfolding line_at
line_some text key at l e = go (formed_at text key at) e
  where
    go : (t : Bool) → Some l ≡ cond t (Some (line_said text key at)) None → (t ≡ true) × (l ≡ line_said text key at)
    go true k = (refl, cc)
    go false k = cc

-- line k, where it has the form: its value; and the next line begins past it, inside the text and two bytes further at least
pub record LineRead (text key : List ℕ) (k : ℕ) (l : Line) : Type 0 where
  pub has_form : formed text key k ≡ true
  pub gives : l.value ≡ value_of text key k
  pub next : l.next ≡ line_start text (k + 1)
  pub inside : l.next ≤ length text
  pub further : line_start text k + 2 ≤ l.next

pub line_read : (text key : List ℕ) → one_line key ≡ true → (k at : ℕ) → at ≡ line_start text k → (l : Line) → Some l ≡ line_at text key at → LineRead text key k l
unfolding value_of
line_read text key one k at p l e =
    let w = line_some text key (line_start text k) l (e ∙ ap (line_at text key) p) in
    let n = next_start text key one k w.0 in
    let i = formed_inside text key (line_start text k) w.0 in
    record {
      has_form = w.0;
      gives = ap (λ (l : Line). l.value) w.1;
      next = ap (λ (l : Line). l.next) w.1 ∙ sym n;
      inside = omega (arith, i.0, ap (λ (l : Line). l.next) w.1);
      further = omega (arith, i.1, ap (λ (l : Line). l.next) w.1);
    }

-- ---- the end of the text

-- a line is missing exactly where no byte is left for it
pub line_missing : (text : List ℕ) (k : ℕ) → length text ≤ line_start text k → line text k ≡ []
unfolding first_line
line_missing text k h = rw (drop_of_length-le text h)

pub missing_line : (text : List ℕ) (k : ℕ) → line text k ≡ [] → length text ≤ line_start text k
unfolding first_line
missing_line text k e = omega (arith, none (drop (line_start text k) text) e, length-drop (line_start text k) text)
  where
    none : (s : List ℕ) → first_line s ≡ [] → length s ≤ 0
    none [] h = omega arith
    none (b ∷ bs) h = let z : ◌≡◌ {A = ℕ} 0 1 = cc in absurd (omega arith)
