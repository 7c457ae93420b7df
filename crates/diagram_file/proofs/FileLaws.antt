-- The rules of a diagram file say what its table says. Assumes nothing.
use mathlib.Core.Path.{◌≡◌, refl, sym, ◌∙◌}
use mathlib.Core.Bool.{true, false, not, true≢false}
use mathlib.Core.List.{List, []}
use Prim.Native.Nat.{ℕ, ◌+◌, ◌≤◌}
use native.Mathlib.Omega.{arith}
use lib.Dec.{leb, ltb}
use lib.ListN.{length}
use borrow.Author.Tests.{not-true, not-false, leb-true, leb-false, ltb-true, ltb-false}
use Rattle.lists.proofs.FirstLaws.{tests_at, tests_each, tests_from}
use Rattle.refusal.proofs.TableLaws.{Faithful, faithful_append}
use Rattle.diagram_file.specs.Lines.{one_line, line_start, line, LineGives, formed, value_of}
use Rattle.diagram_file.specs.File.{options_key, domain_key, nodes_key, layer_key, edges_key, to_key, nodes_line, edges_line, end_line}
use Rattle.diagram_file.specs.Rules.{misformed, part_rules, end_rules, file_rules, part_table, end_table, file_table}
use Rattle.diagram_file.specs.declared.Sizes.{Sizes}
use Rattle.diagram_file.proofs.LineLaws.{formed_gives, gives_formed, line_missing, missing_line}

module _ (text : List ℕ) where
  module _ (key : List ℕ) (one : one_line key ≡ true) where
    is_well : (k : ℕ) → misformed text key k ≡ false → LineGives text key k
    is_well k e = formed_gives text key one k (not-false (formed text key k) e)

    is_not : (k : ℕ) → misformed text key k ≡ true → LineGives text key k → ⊥
    is_not k e g = true≢false (sym (gives_formed text key one k g) ∙ not-true (formed text key k) e)

  part_faithful : (key later : List ℕ) → one_line key ≡ true → one_line later ≡ true → (k most : ℕ) → Faithful (part_rules text key later k most) (part_table text key later k most)
  unfolding part_rules
  part_faithful key later one one' k most = (
    refl,
    (tests_at (k + 1) (misformed text key k) (LineGives text key k) (is_well key one k) (is_not key one k)).at,
    λ _. (
      refl,
      (tests_at (k + 1) (ltb most (value_of text key k)) (value_of text key k ≤ most) (λ e. ltb-false most (value_of text key k) e) (λ e h. omega (arith, ltb-true most (value_of text key k) e))).at,
      λ _. (
        refl,
        (tests_from (k + 1 + 1) _ (tests_each (λ j. misformed text later (k + 1 + j)) (λ i. LineGives text later (k + 1 + i)) (value_of text key k) (λ i _. is_well later one' (k + 1 + i)) (λ i _. is_not later one' (k + 1 + i)))).at,
        λ _. tt,
      ),
    ),
  )

  end_faithful : (k : ℕ) → Faithful (end_rules text k) (end_table text k)
  end_faithful k = (
    refl,
    (tests_at (k + 1) (not (leb (length text) (line_start text k))) (line text k ≡ [])
        (λ e. line_missing text k (leb-true _ _ (not-false _ e)))
        (λ e h. omega (arith, missing_line text k h, leb-false (length text) (line_start text k) (not-true _ e)))).at,
    λ _. tt,
  )

  pub file_faithful : (most : Sizes) → Faithful (file_rules text most) (file_table text most)
  unfolding file_rules one_line
  file_faithful most =
      faithful_append (part_rules text options_key domain_key 0 most.options) _ _ _ (part_faithful options_key domain_key refl refl 0 most.options)
      (λ _. faithful_append (part_rules text nodes_key layer_key (nodes_line text) most.nodes) _ _ _ (part_faithful nodes_key layer_key refl refl (nodes_line text) most.nodes)
      (λ _. faithful_append (part_rules text edges_key to_key (edges_line text) most.edges) _ _ _ (part_faithful edges_key to_key refl refl (edges_line text) most.edges) (λ _. end_faithful (end_line text))))
