-- What is found in bytes, is small enough and is written as they are is the code that is read from them.
use Rattle.std.proofs.Common.{◌≡◌, ℕ, List, [], map, Option, Some, None, sym, ap, ◌∙◌, subst as put}
use Rattle.mt_tree.specs.declared.data.Data.{Data}
use Rattle.mt_syntax.specs.CodeText.{code_text}
use Rattle.mt_syntax.specs.DataLimits.{AreWithinLimits}
use Rattle.mt_syntax.specs.Fold.{on_stmt}
use Rattle.mt_syntax.specs.declared.tree.Stmt.{Stmt}
use Rattle.mt_stage_placement.specs.Placement.{misplaced_jumps}
use Rattle.mt_stage_declared.specs.Twice.{twice_in_client}
use Rattle.mt_stage.specs.CodeLimits.{IsCodeWithinLimits}
use Rattle.mt_script_tree.specs.Reading.{stmts_at}
use Rattle.mt_script_read.proofs.FoundStatements.{found_code_is_readable}
use Rattle.mt_script_read.specs.Reads.{Reads}
use Rattle.mt_script_read.specs.Walking.{all_walks, walking}
use Rattle.mt_script_read.proofs.Exact.{none_found, only_found}
use Rattle.mt_script_read.proofs.Walked.{too_deep, walked_depth, walked_values}

-- a walk, said of what was walked and from nothing on
pub walk_of : (rows found : List Stmt) (start : List Data) (outcome : Option (List Data)) → rows ≡ found → start ≡ [] → all_walks (map (on_stmt walking) rows) 60 start ≡ outcome
    → all_walks (map (on_stmt walking) found) 60 [] ≡ outcome
walk_of rows found start outcome same empty walk =
    put (λ s. all_walks (map (on_stmt walking) s) 60 [] ≡ outcome) same (put (λ ds. all_walks (map (on_stmt walking) rows) 60 ds ≡ outcome) empty walk)

pub walk_to : (rows found : List Stmt) (start total met : List Data) → rows ≡ found → start ≡ [] → met ≡ total → all_walks (map (on_stmt walking) rows) 60 start ≡ Some total
    → all_walks (map (on_stmt walking) found) 60 [] ≡ Some met
walk_to rows found start total met same empty is walk = walk_of rows found start (Some total) same empty walk ∙ ap (λ ds. Some ds) (sym is)

-- ---- the bytes, what is found in them, and the values met in it

module _ (bytes : List ℕ) (found : List Stmt) (is : stmts_at 60 bytes ≡ Some found) where
  abbrev Walks : Option (List Data) → Type 0
  Walks outcome = all_walks (map (on_stmt walking) found) 60 [] ≡ outcome

  -- any code that is read from the bytes is what is found
  pub read_is_found : (body : List Stmt) → Reads bytes body → body ≡ found
  read_is_found body r = only_found bytes body found is r.within r.text

  pub found_is_not_too_deep : Walks None → (body : List Stmt) → Reads bytes body → ⊥
  found_is_not_too_deep walk body r = too_deep found 60 walk (put IsCodeWithinLimits (read_is_found body r) r.within).depth

  pub text_of_found : (body : List Stmt) → Reads bytes body → code_text found ≡ bytes
  text_of_found body r = put (λ b. code_text b ≡ bytes) (read_is_found body r) r.text

  pub values_are_within : (met : List Data) → Walks (Some met) → (body : List Stmt) → Reads bytes body → AreWithinLimits met
  values_are_within met walk body r = put AreWithinLimits (sym (walked_values found 60 met walk)) (put IsCodeWithinLimits (read_is_found body r) r.within).values

  pub found_fits : (body : List Stmt) → Reads bytes body → (misplaced_jumps found ≡ []) × (twice_in_client found ≡ [])
  found_fits body r = let w = put IsCodeWithinLimits (read_is_found body r) r.within in (w.jumps, w.names)

  pub found_is_read : (met : List Data) → Walks (Some met) → AreWithinLimits met → code_text found ≡ bytes → misplaced_jumps found ≡ [] → twice_in_client found ≡ [] → Reads bytes found
  found_is_read met walk small text jumps names =
      let readable = found_code_is_readable 60 bytes found is in
      record {
        within = record {
          code = readable.code;
          depth = walked_depth found 60 met walk;
          texts = readable.texts;
          values = put AreWithinLimits (walked_values found 60 met walk) small;
          jumps = jumps;
          names = names;
        };
        text = text;
      }

pub nothing_is_read : (bytes : List ℕ) → stmts_at 60 bytes ≡ None → (body : List Stmt) → Reads bytes body → ⊥
nothing_is_read bytes none body r = none_found bytes body none r.within r.text
