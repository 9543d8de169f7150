-- No two lists have one text.
use Rattle.std.proofs.Common.{◌≡◌, suc, ◌+◌, ◌*◌, List, map, true, Some, option_and_then, sym, ap, ◌∙◌, arith}
use Rattle.std.specs.List.{list_all}
use Rattle.mt_tree.specs.declared.data.Data.{Data}
use Rattle.mt_syntax.specs.Depth.{greatest}
use Rattle.mt_syntax.specs.DataText.{arguments_text}
use Rattle.mt_syntax.specs.Data.{is_data}
use Rattle.mt_syntax.specs.DataLimits.{depth_of_data}
use Rattle.serde_json.specs.Data as json
use Rattle.serde_json.specs.Find.{as_array}
use Rattle.serde_json.specs.View.{items_of}
use Rattle.mt_json.specs.Tagged.{data_of}
use Rattle.mt_json.proofs.JsonOf.{json_of}
use Rattle.mt_json.proofs.JsonTexts.{one_value, reads_array}
use Rattle.mt_json.proofs.Readings.{each_good, each_reads}

pub one_list_text : (ds es : List Data) → list_all is_data ds ≡ true → list_all is_data es ≡ true → arguments_text ds ≡ arguments_text es → ds ≡ es
one_list_text ds es all_ds all_es same =
    let m = 3 * greatest (map depth_of_data ds) + 1 in
    let n = 3 * greatest (map depth_of_data es) + 1 in
    let reads_ds = each_reads ds m (each_good ds) all_ds (omega arith) in
    let reads_es = each_reads es n (each_good es) all_es (omega arith) in
    let value = one_value (json.array (items_of (map json_of ds))) (json.array (items_of (map json_of es))) (arguments_text ds) (arguments_text es) (suc m) (suc n)
    (reads_array _ _ m reads_ds.0) (reads_array _ _ n reads_es.0) same in
    let whole : Some ds ≡ Some es = sym reads_ds.1 ∙ ap (λ v. option_and_then data_of (as_array v)) value ∙ reads_es.1 in cc
