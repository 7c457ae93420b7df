-- The way back from the solver holds in whatever edition is "exactly one" and speaks of its own variables, and so in
-- edition 1. Assumes nothing.
use mathlib.Core.Path.{◌≡◌, refl, sym, ◌∙◌, ap, subst}
use mathlib.Core.Bool.{Bool, true, false, not, true≢false}
use mathlib.Core.List.{List, Memᴰ}
use Prim.Native.Nat.{ℕ, suc, ◌+◌, ◌≤◌, ◌<◌}
use native.Mathlib.Omega.{arith}
use lib.IntN.{ℤ, pos, negsuc, nat_abs}
use lib.ListN.{length, take}
use Rattle.lists.proofs.UptoLaws.{list_singles, list_at}
use Rattle.lists.proofs.EveryLaws.{every_none, every_more, every_up_to, entry_in}
use Rattle.cnf.specs.Clause.{Clause, plain, says, Setting, holds, Satisfies}
use Rattle.cnf.specs.declared.Tally.{Tally}
use Rattle.diagram.specs.Lent.{Lent, options, chosen}
use Rattle.diagram.specs.Numbers.{first_value}
use Rattle.diagram.specs.Sound.{Sound}
use Rattle.judge.specs.Build.{Fits}
use Rattle.clauses.specs.Variables.{value_variable}
use Rattle.clauses.specs.Clauses.{Edition, edition1, last_variable}
use Rattle.clauses.specs.Editions.{ExactlyOne, OwnVariables}
use Rattle.clauses.proofs.VariableLaws.{value_within}
use Rattle.clauses.proofs.Edition1.{edition1_one, edition1_own}
use Rattle.encoding.proofs.EncodeLaws.{encode_written}
use Rattle.literals.specs.Literals.{literal, variable}
use Rattle.model.specs.Model.{Named, NamedTrue, BuildOf, ReadsAs}
use Rattle.model.specs.Promise.{ModelPromise}
use Rattle.model.specs.declared.ModelRead.TheVariants.{Built}
use Rattle.model.specs.declared.ModelAnswer.{ModelAnswer}
use Rattle.model.proofs.NamedLaws.{build_fits}
use Rattle.model.proofs.ModelLaws.{built_exactly, built_list}
use Rattle.demands.specs.Demand3.{Gives, Meaning, Demand3}
use Rattle.demands.specs.ReadBack.{Names, truth_of, literal_of, model_of, ComesBack, WasRead, ReadBack}
use Rattle.demands.proofs.Demand3.{demand3}

-- ---- a model that names a setting

-- a literal that is true under the setting and names a variable that the setting makes true is that variable's own
holds_plain : (σ : Setting) (l : ℤ) (x : ℕ) → holds σ l ≡ true → nat_abs l ≡ x → σ x ≡ true → l ≡ plain x
holds_plain σ (pos n) x h e t = ap pos e
holds_plain σ (negsuc n) x h e t = absurd (true≢false (sym h ∙ ap (λ (k : ℕ). not (σ k)) e ∙ ap not t))

-- a variable that is true and named is named true
named_true : {d : Lent} {last : ℕ} (σ : Setting) (m : List ℤ) → Names d last σ m → (x : ℕ) → σ x ≡ true → Named m x → NamedTrue m x
named_true σ m named x t w =
    let p = entry_in (pos 0) m w.0 w.1 in
    subst (λ (l : ℤ). Memᴰ l m) (holds_plain σ (literal m w.0) x (named.true_there _ p) w.2 t) p

-- it says the build that the setting gives: a value is named true exactly where the setting makes it true
says_build : (d : Lent) (last : ℕ) (σ : Setting) (m : List ℤ) → Names d last σ m → (build : List ℕ) → Fits d build → Gives d (chosen build) σ → BuildOf d m build
says_build d last σ m named build f g =
    record {
      whole = f.whole;
      each = λ i h. record {
        in_range = f.in_domain i h;
        named_true =
            let t = (g.exactly i (chosen build i) h (f.in_domain i h)).1 refl in
            named_true σ m named (value_variable d i (chosen build i)) t (named.trues_named i (chosen build i) h (f.in_domain i h) t);
        no_other = λ k l t. (g.exactly i k h l).0 (named.true_there (plain (value_variable d i k)) t);
      };
    }

-- so it reads as that build, whatever the clauses are, as long as they have the meaning of demand 3: that each setting which
-- satisfies them gives an allowed build
comes_back : (e : Edition) (d : Lent) → Sound d → {last : ℕ} {cs : List Clause} → last ≡ last_variable e d → Meaning d last cs (Fits d) chosen → (σ : Setting) → Satisfies σ cs → (m : List ℤ) → Names d last σ m
    → (before : List ℕ) (answer : ModelAnswer) (after : List ℕ) → ModelPromise e d m before answer after → options d ≤ length before → ComesBack d σ before answer after
comes_back e d s {last} {cs} v meaning σ sat m named before answer after p h =
    let t = meaning.every_satisfying σ sat in
    let b = says_build d last σ m named t.0 t.1 t.2 in
    let r : ReadsAs d m e t.0 = record { well_named = rw (sym v) named.well_named; is_said = b; allowed = t.3 } in
    let q = (built_exactly d m e before answer after p (options d)).1 ((s, h), (t.0, r), refl) in
    let l = built_list d m e before answer after p (options d) q t.0 b in
    record { build = t.0; fits = t.1; gives = t.2; allowed = t.3; answered = q; front = l.0; rest = l.1 }

-- ---- the model that names every variable, in order

-- a literal that says something of a variable names it, and holds where it says what the setting says
says_names : (b : Bool) (u : ℕ) → nat_abs (says b (suc u)) ≡ suc u
says_names true u = refl
says_names false u = refl

says_holds : (σ : Setting) (b : Bool) (u : ℕ) → σ (suc u) ≡ b → holds σ (says b (suc u)) ≡ true
says_holds σ true u q = q
says_holds σ false u q = ap not q

module _ (last : ℕ) (σ : Setting) where
  names_all : length (model_of last σ) ≡ last
  names_all = list_singles last (literal_of σ)

  -- the literal at index k names the variable k + 1
  names_next : (k : ℕ) → k < length (model_of last σ) → variable (model_of last σ) k ≡ suc k
  names_next k h = ap nat_abs (list_at (pos 0) (literal_of σ) last k (omega (arith, names_all))) ∙ says_names (truth_of σ k) k

in_order : (e : Edition) (d : Lent) (σ : Setting) → Names d (last_variable e d) σ (model_of (last_variable e d) σ)
in_order e d σ =
    record {
      well_named = record {
        ranged = λ k h. rw (names_next last σ k h) (omega arith, omega (arith, names_all last σ));
        named_first = λ k h _ j l q. omega (arith, names_next last σ k h, names_next last σ j (omega arith));
      };
      true_there = every_up_to True last _ (λ k h. every_more True (says_holds σ (truth_of σ k) k refl) (every_none True));
      trues_named = λ i j h l q. let n : first_value d i + j < length (model_of last σ) = omega (arith, names_all last σ, value_within e d i j h l) in (first_value d i + j, n, names_next last σ (first_value d i + j) n);
    }
  where
    last : ℕ
    last = last_variable e d

    True : ℤ → Type 0
    True l = holds σ l ≡ true

-- ---- whatever is read

was_read : (e : Edition) → Demand3 e → (d : Lent) (m : List ℤ) (before : List ℕ) (answer : ModelAnswer) (after : List ℕ) → ModelPromise e d m before answer after → (n : ℕ) → answer.outcome ≡ Built n → WasRead e d m n before after (take n after)
was_read e demand d m before answer after p n q =
    let w = (built_exactly d m e before answer after p n).0 q in
    let s = w.0.0 in
    let build = w.1.0 in
    let r = w.1.1 in
    let f = build_fits d m build r.is_said in
    let l = built_list d m e before answer after p n q build r.is_said in
    subst (WasRead e d m n before after) (sym l.0) (record { sound = s; counted = w.2; is_said = r.is_said; fits = f; allowed = r.allowed; one_setting = (demand.with_lists d s).allowed build f r.allowed; rest = l.1 })

pub read_back : (e : Edition) → ExactlyOne e → OwnVariables e → ReadBack e
read_back e one own =
    record {
      reads_back = λ d s. comes_back e d s refl (demand.with_lists d s);
      written = λ d room encoded buffer p t q. let w = (encode_written e d room encoded buffer p t).0 q in comes_back e d w.0.0 (ap (λ (t : Tally). t.variables) w.1) (demand.written d room encoded buffer p t q);
      in_order = in_order e;
      was_read = was_read e demand;
    }
  where
    demand : Demand3 e
    demand = demand3 e one own

pub edition1_read_back : ReadBack edition1
edition1_read_back = read_back edition1 edition1_one edition1_own
