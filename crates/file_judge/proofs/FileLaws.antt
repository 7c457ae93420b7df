-- The three parts of a diagram file one after the other, and the end: what was found of each, where those before it passed.
-- Assumes nothing.
use Rattle.std.specs.Prelude.{◌≡◌, Result, Ok, Err, List, ◌++◌, ℕ, ◌+◌, refl}
use Rattle.std.proofs.Common.{sym, ◌∙◌, ap, subst}
use Rattle.refusal.specs.Rules.{Rule, Verdict, chain}
use Rattle.refusal.specs.declared.Refusal.{Refusal}
use Rattle.refusal.proofs.RulesLaws.{refuses, passes}
use Rattle.diagram_file.specs.Lines.{value_of}
use Rattle.diagram_file.specs.File.{options_key, domain_key, nodes_key, layer_key, edges_key, to_key, nodes_line, edges_line, end_line}
use Rattle.diagram_file.specs.Rules.{part_rules, end_rules, file_rules}
use Rattle.diagram_file.specs.declared.Sizes.{Sizes}
use Rattle.file_judge.specs.Judged.{Judged}
use Rattle.file_judge.specs.declared.Cursor.{Cursor}

module _ (text : List ℕ) (most : Sizes) where
  -- the rules of the three parts, and those from the nodes and from the edges on
  abbrev option_rules : List Rule
  option_rules = part_rules text options_key domain_key 0 most.options

  abbrev node_rules : List Rule
  node_rules = part_rules text nodes_key layer_key (nodes_line text) most.nodes

  abbrev edge_rules : List Rule
  edge_rules = part_rules text edges_key to_key (edges_line text) most.edges

  abbrev from_edges : List Rule
  from_edges = edge_rules ++ end_rules text (end_line text)

  abbrev from_nodes : List Rule
  from_nodes = node_rules ++ from_edges

  module _ (a : Result Cursor Refusal) (options : Judged text option_rules (nodes_line text) a) where
    pub options_refuse : {r : Refusal} → a ≡ Err r → Err r ≡ chain (file_rules text most)
    unfolding file_rules
    options_refuse e = refuses option_rules from_nodes (sym (subst (Judged text option_rules (nodes_line text)) e options)) refl

    module _ {nodes : Cursor} (e : a ≡ Ok nodes) where
      pub options_pass : Judged text option_rules (nodes_line text) (Ok nodes)
      options_pass = subst (Judged text option_rules (nodes_line text)) e options

      module _ (b : Result Cursor Refusal) (found : Judged text (part_rules text nodes_key layer_key nodes.line most.nodes) (nodes.line + 1 + value_of text nodes_key nodes.line) b) where
        layers : Judged text node_rules (edges_line text) b
        layers = subst (λ (k : ℕ). Judged text (part_rules text nodes_key layer_key k most.nodes) (k + 1 + value_of text nodes_key k) b) options_pass.2 found

        pub nodes_refuse : {r : Refusal} → b ≡ Err r → Err r ≡ chain (file_rules text most)
        unfolding file_rules
        nodes_refuse f = passes option_rules from_nodes refl options_pass.0 (refuses node_rules from_edges (sym (subst (Judged text node_rules (edges_line text)) f layers)) refl)

        module _ {edges : Cursor} (f : b ≡ Ok edges) where
          pub nodes_pass : Judged text node_rules (edges_line text) (Ok edges)
          nodes_pass = subst (Judged text node_rules (edges_line text)) f layers

          module _ (c : Result Cursor Refusal) (last : Judged text (part_rules text edges_key to_key edges.line most.edges) (edges.line + 1 + value_of text edges_key edges.line) c) where
            targets : Judged text edge_rules (end_line text) c
            targets = subst (λ (k : ℕ). Judged text (part_rules text edges_key to_key k most.edges) (k + 1 + value_of text edges_key k) c) nodes_pass.2 last

            pub edges_refuse : {r : Refusal} → c ≡ Err r → Err r ≡ chain (file_rules text most)
            unfolding file_rules
            edges_refuse g =
                passes option_rules from_nodes refl options_pass.0
                (passes node_rules from_edges refl nodes_pass.0 (refuses edge_rules (end_rules text (end_line text)) (sym (subst (Judged text edge_rules (end_line text)) g targets)) refl))

            module _ {end : Cursor} (g : c ≡ Ok end) where
              pub edges_pass : Judged text edge_rules (end_line text) (Ok end)
              edges_pass = subst (Judged text edge_rules (end_line text)) g targets

              pub end_decides : {v : Verdict} → v ≡ chain (end_rules text end.line) → v ≡ chain (file_rules text most)
              unfolding file_rules
              end_decides h =
                  passes option_rules from_nodes refl options_pass.0
                  (passes node_rules from_edges refl nodes_pass.0 (passes edge_rules (end_rules text (end_line text)) refl edges_pass.0 (h ∙ ap (λ (m : ℕ). chain (end_rules text m)) edges_pass.2)))
