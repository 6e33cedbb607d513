use Rattle.std.proofs.Common.{◌∙◌, ap, sym}
use Rattle.std.specs.Prelude.{option_map, unwrap_or}
use Rattle.model.specs.Commands.{words}
use Rattle.model.specs.declared.command.Parsed.TheVariants as parsed
use Rattle.session_grammar.proofs.ReadLaws.{command_of_words, line-blank, line-empty, line-unknown, line-unclean, line-clean}
use Rattle.session_grammar.proofs.read.Goals as goal

pub returns-then-begins_blank : goal.returns-then-begins_blank
returns-then-begins_blank c = line-blank c.args.line.now c.if-begins_blank.ensures

pub returns-in_default : goal.returns-in_default
returns-in_default c = line-empty c.args.line.now c.if-begins_blank.ensures c.in_default.ensures

pub returns-in_default-keyword_of : goal.returns-in_default-keyword_of
returns-in_default-keyword_of c =
    line-unknown c.args.line.now c.if-begins_blank.ensures c.in-Some.word.now
    (words c.in-Some.rest.now) c.in-Some.ensures c.in_default-keyword_of.ensures

pub returns-then-not-is_clean : goal.returns-then-not-is_clean
returns-then-not-is_clean c =
    line-unclean c.args.line.now c.if-begins_blank.ensures c.in-Some.word.now (words c.in-Some.rest.now) c.in-Some.ensures
    c.in-Some-keyword_of.keyword c.in-Some-keyword_of.ensures c.if-not-is_clean.ensures

pub returns-in-Some-2 : goal.returns-in-Some-2
returns-in-Some-2 c =
    ap (λ o. unwrap_or (option_map parsed.Command o) parsed.Bad) (sym c.in-Some-2.is)
    ∙ line-clean c.args.line.now c.if-begins_blank.ensures c.in-Some.word.now (words c.in-Some.rest.now) c.in-Some.ensures
    c.in-Some-keyword_of.keyword c.in-Some-keyword_of.ensures c.if-not-is_clean.ensures
    c.in_ok-command.field-0 (c.in_ok-command.ensures
    ∙ command_of_words _ c.arguments_of.result (words c.in-Some.rest.now) c.arguments_of.ensures)

pub returns-in-None : goal.returns-in-None
returns-in-None c =
    ap (λ o. unwrap_or (option_map parsed.Command o) parsed.Bad) (sym c.in-None.is)
    ∙ line-clean c.args.line.now c.if-begins_blank.ensures c.in-Some.word.now (words c.in-Some.rest.now) c.in-Some.ensures
    c.in-Some-keyword_of.keyword c.in-Some-keyword_of.ensures c.if-not-is_clean.ensures
    c.in_ok-command.field-0 (c.in_ok-command.ensures
    ∙ command_of_words _ c.arguments_of.result (words c.in-Some.rest.now) c.arguments_of.ensures)
