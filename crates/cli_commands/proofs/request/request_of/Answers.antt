use Rattle.std.proofs.Common.{map, string_bytes, Err}
use Rattle.std.proofs.lemmas.Result.{err_from_is_err_and}
use Rattle.cli_commands.specs.Filters.{AnswersFilter}
use Rattle.cli_commands.specs.Texts.{AnswersId, AnswersText}
use Rattle.cli_commands.specs.declared.call.Call.TheVariants as words
use Rattle.cli_commands.specs.declared.lines.UsageError.TheVariants as complaints
use Rattle.cli_commands.specs.declared.word_texts.TextError.TheVariants.{Unreadable}
use Rattle.cli_commands.proofs.WordLemmas.{get_texts, has_id, no_filter, no_id, no_json, no_json_last, some_texts, stops}
use Rattle.cli_commands.proofs.request.request_of.Goals as goal

pub returns-in_err-json_of_text-in-Insert : goal.returns-in_err-json_of_text-in-Insert
returns-in_err-json_of_text-in-Insert c =
    let w = c.args.words.now in
    let texts = map string_bytes w.rest.now in
    let p = err_from_is_err_and c.from_residual.result c.from_residual.ensures.1 in
    rw (p.1, p.2) (stops w.call words.Insert texts complaints.Json (AnswersText c.text_at-first.result.now (Err Unreadable)) c.in_err-json_of_text-in-Insert.field-0.0 c.in-Insert.is (c.takes.ensures.0 c.if-not-takes.false)
    (some_texts 0 texts) (λ t x. (t, no_json texts c.text_at-first.result.now c.text_at-first.ensures t x)) c.in_err-json_of_text-in-Insert.ensures)

pub returns-in_err-json_of_text-in-Replace : goal.returns-in_err-json_of_text-in-Replace
returns-in_err-json_of_text-in-Replace c =
    let w = c.args.words.now in
    let texts = map string_bytes w.rest.now in
    let p = err_from_is_err_and c.from_residual-in_err-json_of_text-in-Replace.result c.from_residual-in_err-json_of_text-in-Replace.ensures.1 in
    rw (p.1, p.2) (stops w.call words.Replace texts complaints.Json (AnswersText c.text_at-first.result.now (Err Unreadable)) c.in_err-json_of_text-in-Replace.field-0.0 c.in-Replace.is (c.takes.ensures.0 c.if-not-takes.false)
    (some_texts 0 texts) (λ t x. (t, no_json texts c.text_at-first.result.now c.text_at-first.ensures t x)) c.in_err-json_of_text-in-Replace.ensures)

pub returns-in_err-id_of-in-Get : goal.returns-in_err-id_of-in-Get
returns-in_err-id_of-in-Get c =
    let w = c.args.words.now in
    let texts = map string_bytes w.rest.now in
    let p = err_from_is_err_and c.from_residual-in_err-id_of-in-Get.result c.from_residual-in_err-id_of-in-Get.ensures.1 in
    rw (p.1, p.2) (stops w.call words.Get texts complaints.Id (AnswersId c.text_at-first.result.now (Err Unreadable)) c.in_err-id_of-in-Get.field-0.0 c.in-Get.is (c.takes.ensures.0 c.if-not-takes.false)
    (get_texts texts) (λ t x. (t, no_id texts c.text_at-first.result.now c.text_at-first.ensures (get_texts texts t) x)) c.in_err-id_of-in-Get.ensures)

pub returns-in_err-id-in-Set : goal.returns-in_err-id-in-Set
returns-in_err-id-in-Set c =
    let w = c.args.words.now in
    let texts = map string_bytes w.rest.now in
    let p = err_from_is_err_and c.from_residual-in_err-id-in-Set.result c.from_residual-in_err-id-in-Set.ensures.1 in
    rw (p.1, p.2) (stops w.call words.Set texts complaints.Id (AnswersId c.text_at-first.result.now (Err Unreadable)) c.in_err-id-in-Set.field-0.0 c.in-Set.is (c.takes.ensures.0 c.if-not-takes.false)
    (some_texts 2 texts) (λ t x. (t, no_id texts c.text_at-first.result.now c.text_at-first.ensures (some_texts 2 texts t) x)) c.in_err-id-in-Set.ensures)

pub returns-in_err-json-in-Set : goal.returns-in_err-json-in-Set
returns-in_err-json-in-Set c =
    let w = c.args.words.now in
    let texts = map string_bytes w.rest.now in
    let p = err_from_is_err_and c.from_residual-in_err-json-in-Set.result c.from_residual-in_err-json-in-Set.ensures.1 in
    rw (p.1, p.2) (stops w.call words.Set texts complaints.Json (AnswersText c.text_at-third.result.now (Err Unreadable)) c.in_err-json-in-Set.field-0.0 c.in-Set.is (c.takes.ensures.0 c.if-not-takes.false)
    (some_texts 2 texts) (λ t x. (t, (has_id texts c.text_at-first.result.now _ c.text_at-first.ensures (some_texts 2 texts t) c.in_ok-id-in-Set.ensures, no_json_last texts c.text_at-third.result.now c.text_at-third.ensures t x))) c.in_err-json-in-Set.ensures)

pub returns-in_err-id_of-in-Unset : goal.returns-in_err-id_of-in-Unset
returns-in_err-id_of-in-Unset c =
    let w = c.args.words.now in
    let texts = map string_bytes w.rest.now in
    let p = err_from_is_err_and c.from_residual-in_err-id_of-in-Unset.result c.from_residual-in_err-id_of-in-Unset.ensures.1 in
    rw (p.1, p.2) (stops w.call words.Unset texts complaints.Id (AnswersId c.text_at-first.result.now (Err Unreadable)) c.in_err-id_of-in-Unset.field-0.0 c.in-Unset.is (c.takes.ensures.0 c.if-not-takes.false)
    (some_texts 1 texts) (λ t x. (t, no_id texts c.text_at-first.result.now c.text_at-first.ensures (some_texts 1 texts t) x)) c.in_err-id_of-in-Unset.ensures)

pub returns-in_err-id_of-in-Remove : goal.returns-in_err-id_of-in-Remove
returns-in_err-id_of-in-Remove c =
    let w = c.args.words.now in
    let texts = map string_bytes w.rest.now in
    let p = err_from_is_err_and c.from_residual-in_err-id_of-in-Remove.result c.from_residual-in_err-id_of-in-Remove.ensures.1 in
    rw (p.1, p.2) (stops w.call words.Remove texts complaints.Id (AnswersId c.text_at-first.result.now (Err Unreadable)) c.in_err-id_of-in-Remove.field-0.0 c.in-Remove.is (c.takes.ensures.0 c.if-not-takes.false)
    (some_texts 0 texts) (λ t x. (t, no_id texts c.text_at-first.result.now c.text_at-first.ensures (some_texts 0 texts t) x)) c.in_err-id_of-in-Remove.ensures)

pub returns-in_err-filter_of_text-in-Find : goal.returns-in_err-filter_of_text-in-Find
returns-in_err-filter_of_text-in-Find c =
    let w = c.args.words.now in
    let texts = map string_bytes w.rest.now in
    let p = err_from_is_err_and c.from_residual-in_err-filter_of_text-in-Find.result c.from_residual-in_err-filter_of_text-in-Find.ensures.1 in
    rw (p.1, p.2) (stops w.call words.Find texts complaints.Filter (AnswersFilter c.text_at-first.result.now (Err Unreadable)) c.in_err-filter_of_text-in-Find.field-0.0 c.in-Find.is (c.takes.ensures.0 c.if-not-takes.false)
    (some_texts 0 texts) (λ t x. (t, no_filter texts c.text_at-first.result.now c.text_at-first.ensures t x)) c.in_err-filter_of_text-in-Find.ensures)

pub returns-in_err-filter_of_text-in-Count : goal.returns-in_err-filter_of_text-in-Count
returns-in_err-filter_of_text-in-Count c =
    let w = c.args.words.now in
    let texts = map string_bytes w.rest.now in
    let p = err_from_is_err_and c.from_residual-in_err-filter_of_text-in-Count.result c.from_residual-in_err-filter_of_text-in-Count.ensures.1 in
    rw (p.1, p.2) (stops w.call words.Count texts complaints.Filter (AnswersFilter c.text_at-first.result.now (Err Unreadable)) c.in_err-filter_of_text-in-Count.field-0.0 c.in-Count.is (c.takes.ensures.0 c.if-not-takes.false)
    (some_texts 0 texts) (λ t x. (t, no_filter texts c.text_at-first.result.now c.text_at-first.ensures t x)) c.in_err-filter_of_text-in-Count.ensures)
