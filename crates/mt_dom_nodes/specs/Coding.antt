-- How trees are stored: as marks, from the leaves up.
use Rattle.std.specs.Prelude.{◌≡◌, ℕ, Option, None, Some, List, [], ◌∷◌, ◌++◌, refl}
use Rattle.std.proofs.Common.{ap, sym, ◌∙◌, append_assoc, append-nil}
use Rattle.std.specs.Coded.{Coded, code_by, coded×, coded_ℕ, coded_list, coded_option}
use Rattle.mt_dom_nodes.specs.declared.content.Content.{Content}
use Rattle.mt_dom_nodes.specs.contracts.content.Content as content
use Rattle.mt_dom_nodes.specs.Trees.{Trees, none, tree}

abbrev pub written : Trees → List (Option (ℕ × Content))
written none = None ∷ []
written (tree n x b a) = written b ++ (written a ++ Some (n, x) ∷ [])

abbrev pub built : List Trees → Option (ℕ × Content) → List Trees
built stack None = none ∷ stack
built [] (Some p) = []
built (a ∷ []) (Some p) = []
built (a ∷ b ∷ stack) (Some p) = tree p.0 p.1 b a ∷ stack

abbrev pub read_marks : List (Option (ℕ × Content)) → List Trees → List Trees
read_marks [] stack = stack
read_marks (m ∷ ms) stack = read_marks ms (built stack m)

abbrev pub first_tree : List Trees → Trees
first_tree [] = none
first_tree (t ∷ ts) = t

pub read-written : (t : Trees) (ms : List (Option (ℕ × Content))) (stack : List Trees) → read_marks (written t ++ ms) stack ≡ read_marks ms (t ∷ stack)
read-written none ms stack = refl
read-written (tree n x b a) ms stack =
    ap (λ l. read_marks l stack) (append_assoc (written b) (written a ++ Some (n, x) ∷ []) ms ∙ ap (λ l. written b ++ l) (append_assoc (written a) (Some (n, x) ∷ []) ms))
    ∙ read-written b (written a ++ (Some (n, x) ∷ ms)) stack
    ∙ read-written a (Some (n, x) ∷ ms) (b ∷ stack)

pub read_again : (t : Trees) → first_tree (read_marks (written t) []) ≡ t
read_again t = ap (λ l. first_tree (read_marks l [])) (sym (append-nil (written t))) ∙ ap first_tree (read-written t [] [])

abbrev pub trees_code : Coded Trees
trees_code = code_by (List (Option (ℕ × Content))) (coded_list (coded_option (coded× coded_ℕ content.the_row.coded))) written (λ l. first_tree (read_marks l [])) read_again
