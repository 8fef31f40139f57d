use Rattle.std.proofs.Common.{true, ◌*◌, ◌^◌, lit≤}
use Rattle.regex.specs.Views.{builder_config, builder_source}
use Rattle.store_question_read.proofs.BuildLemmas.{built_denies, built_reads, config_built, limit_built, source_built}
use Rattle.store_question_read.proofs.patterns.built.Goals as goal

pub returns-clause-read : goal.returns-clause-read
returns-clause-read c =
    built_reads c.args.options.now c.args.pattern.now (record (builder_config c.ignore_whitespace.result) { utf8 = true }) (builder_source c.ignore_whitespace.result)
    (config_built c.args.options.now c.new.result c.case_insensitive.result c.multi_line.result c.dot_matches_new_line.result c.ignore_whitespace.result c.has_option.result c.has_option-2.result c.has_option-3.result c.has_option-4.result
    c.new.ensures.config c.case_insensitive.ensures c.multi_line.ensures c.dot_matches_new_line.ensures c.ignore_whitespace.ensures c.has_option.ensures c.has_option-2.ensures c.has_option-3.ensures c.has_option-4.ensures)
    (source_built c.args.pattern.now c.new.result c.case_insensitive.result c.multi_line.result c.dot_matches_new_line.result c.ignore_whitespace.result c.has_option.result c.has_option-2.result c.has_option-3.result c.has_option-4.result
    c.new.ensures.source c.case_insensitive.ensures c.multi_line.ensures c.dot_matches_new_line.ensures c.ignore_whitespace.ensures)
    c.build.result c.build.ensures.source c.build.ensures.config c.build.ensures.read

pub returns-clause-refused : goal.returns-clause-refused
returns-clause-refused c =
    built_denies c.args.options.now c.args.pattern.now (record (builder_config c.ignore_whitespace.result) { utf8 = true }) (builder_source c.ignore_whitespace.result)
    (config_built c.args.options.now c.new.result c.case_insensitive.result c.multi_line.result c.dot_matches_new_line.result c.ignore_whitespace.result c.has_option.result c.has_option-2.result c.has_option-3.result c.has_option-4.result
    c.new.ensures.config c.case_insensitive.ensures c.multi_line.ensures c.dot_matches_new_line.ensures c.ignore_whitespace.ensures c.has_option.ensures c.has_option-2.ensures c.has_option-3.ensures c.has_option-4.ensures)
    (source_built c.args.pattern.now c.new.result c.case_insensitive.result c.multi_line.result c.dot_matches_new_line.result c.ignore_whitespace.result c.has_option.result c.has_option-2.result c.has_option-3.result c.has_option-4.result
    c.new.ensures.source c.case_insensitive.ensures c.multi_line.ensures c.dot_matches_new_line.ensures c.ignore_whitespace.ensures)
    c.build.result c.build.ensures.by_grammar c.build.ensures.kind (c.build.ensures.no_internal
    (limit_built (10 * 2 ^ 20) c.new.result c.case_insensitive.result c.multi_line.result c.dot_matches_new_line.result c.ignore_whitespace.result c.has_option.result c.has_option-2.result c.has_option-3.result c.has_option-4.result
    c.new.ensures.limit c.case_insensitive.ensures c.multi_line.ensures c.dot_matches_new_line.ensures c.ignore_whitespace.ensures (lit≤ tt)))
