-- Patterns may go to another thread, and be read by several. What searches may go to another thread.
use denote.Param.Send.{sendable, IsSend, IsSync, view_send, view_sync}
use denote.Ref.{NamedLft}
use denote.Param.SendFields.{declared_send, declared_sync, variants_send, variants_sync}
use Rattle.std.proofs.Crossing.{crosses}
use Rattle.regex_hir.proofs.hir.Hir.TheLaws.TheKnot as tree
use Rattle.regex_meta.specs.contracts.branch.Branch as branch
use Rattle.regex_meta.specs.contracts.branches.Branches as branches
use Rattle.regex_meta.specs.contracts.program.Program as program
use Rattle.regex_meta.specs.contracts.searcher.Searcher as searcher
use Rattle.regex_meta.specs.contracts.searcher.apart.Apart as apart
use Rattle.regex.specs.contracts.engine.Engine as engine
use Rattle.regex.specs.contracts.union.Union as joined
use Rattle.regex.specs.contracts.bytes.matcher.Matcher as matcher
use Rattle.regex.specs.contracts.bytes.set.RegexSet as set
use Rattle.regex.specs.contracts.bytes.set.SetMatcher as set_matcher
use Rattle.regex.specs.contracts.pattern.Pattern as pattern
use Rattle.regex.specs.contracts.bytes.regex.Regex as regex
use Rattle.px_patterns.specs.contracts.expressions.Expression as expression
use Rattle.px_patterns.specs.contracts.expressions.Expression.TheInside as expression_inside
use Rattle.px_patterns.specs.contracts.expressions.ExpressionSearch as searched
use Rattle.px_patterns.specs.contracts.hosts.HostPart as host
use Rattle.px_patterns.specs.contracts.kept.KeptExpression as kept
use Rattle.px_patterns.specs.contracts.kept.KeptExpression.TheInside as kept_inside
use Rattle.px_patterns.specs.contracts.kept.KeptPattern as kept_pattern
use Rattle.px_patterns.specs.contracts.patterns.TagPattern as tag
use Rattle.px_patterns.specs.contracts.patterns.UrlPattern as url
use Rattle.px_patterns.specs.contracts.unions.Union as union
use Rattle.px_patterns.specs.contracts.unions.Union.TheInside as union_inside
use Rattle.px_patterns.specs.contracts.unions.KeptUnion as kept_union
use Rattle.px_patterns.specs.contracts.unions.KeptUnion.TheInside as kept_union_inside
use Rattle.px_base.proofs.lists.List.TheSendSync as list
use Rattle.px_base.proofs.ports.Ports.TheSendSync as ports
use Rattle.px_base.proofs.texts.Text.TheSendSync as text

-- ---- expressions

ruleset parts = (crosses, tree.crosses, sendable)

program_send : IsSend program.the_row
program_send = declared_send program.the_type (search parts depth 60 fits 20000, (search parts depth 60 fits 20000, (search parts depth 60 fits 20000, (search parts depth 60 fits 20000, (search parts depth 60 fits 20000, (search parts depth 60 fits 20000, (search parts depth 60 fits 20000, (search parts depth 60 fits 20000, tt))))))))

program_sync : IsSync program.the_row
program_sync = declared_sync program.the_type (search parts depth 60 fits 20000, (search parts depth 60 fits 20000, (search parts depth 60 fits 20000, (search parts depth 60 fits 20000, (search parts depth 60 fits 20000, (search parts depth 60 fits 20000, (search parts depth 60 fits 20000, (search parts depth 60 fits 20000, tt))))))))

pattern_send : IsSend pattern.the_row
pattern_send = declared_send pattern.the_type (search (sendable, crosses) depth 40, (search (sendable, crosses) depth 40, (search (sendable, crosses) depth 40, (search (sendable, program_send) depth 40, tt))))

pattern_sync : IsSync pattern.the_row
pattern_sync = declared_sync pattern.the_type (search (sendable, crosses) depth 40, (search (sendable, crosses) depth 40, (search (sendable, crosses) depth 40, (search (sendable, program_sync) depth 40, tt))))

regex_send : IsSend regex.the_row
regex_send = declared_send regex.the_type (search (sendable, pattern_send) depth 40, tt)

regex_sync : IsSync regex.the_row
regex_sync = declared_sync regex.the_type (search (sendable, pattern_sync) depth 40, tt)

search_send : IsSend searched.the_row
search_send = variants_send searched.enum (tt, ((search (sendable, crosses, regex_send) depth 40, tt), tt))

search_sync : IsSync searched.the_row
search_sync = variants_sync searched.enum (tt, ((search (sendable, crosses, regex_sync) depth 40, tt), tt))

pub expression_send : IsSend expression.the_row
expression_send = view_send expression_inside.the_row _ _ _ _ (declared_send expression_inside.the_type (search (sendable, search_send) depth 40, tt))

pub expression_sync : IsSync expression.the_row
expression_sync = view_sync expression_inside.the_row _ _ _ _ (declared_sync expression_inside.the_type (search (sendable, search_sync) depth 40, tt))

pub tag_send : IsSend tag.the_row
tag_send = declared_send tag.the_type (search (sendable, expression_send) depth 40, tt)

pub tag_sync : IsSync tag.the_row
tag_sync = declared_sync tag.the_type (search (sendable, expression_sync) depth 40, tt)

-- ---- URL patterns

host_send : IsSend host.the_row
host_send = variants_send host.enum ((search (sendable, crosses, list.the_send, text.the_send) depth 40, tt), ((search (sendable, crosses, expression_send) depth 40, tt), tt))

host_sync : IsSync host.the_row
host_sync = variants_sync host.enum ((search (sendable, crosses, list.the_sync, text.the_sync) depth 40, tt), ((search (sendable, crosses, expression_sync) depth 40, tt), tt))

pub url_send : IsSend url.the_row
url_send = declared_send url.the_type (search (sendable, host_send) depth 40, (search (sendable, crosses, ports.the_send) depth 40, (search (sendable, crosses, expression_send) depth 40, tt)))

pub url_sync : IsSync url.the_row
url_sync = declared_sync url.the_type (search (sendable, host_sync) depth 40, (search (sendable, crosses, ports.the_sync) depth 40, (search (sendable, crosses, expression_sync) depth 40, tt)))

-- ---- matchers, which may go to another thread with what they search for

branch_send : (κ : NamedLft) → IsSend (branch.the_row κ)
branch_send κ = declared_send (branch.the_type κ) (search parts depth 60 fits 20000, (search parts depth 60 fits 20000, (search parts depth 60 fits 20000, (search parts depth 60 fits 20000, (search parts depth 60 fits 20000, (search parts depth 60 fits 20000, (search parts depth 60 fits 20000, tt)))))))

branches_send : (κ : NamedLft) → IsSend (branches.the_row κ)
branches_send κ = declared_send (branches.the_type κ) (search parts depth 60 fits 20000, (search parts depth 60 fits 20000, (search (sendable, crosses, branch_send) depth 40, (search parts depth 60 fits 20000, (search parts depth 60 fits 20000, (search parts depth 60 fits 20000, tt))))))

apart_send : (κ : NamedLft) → IsSend (apart.the_row κ)
apart_send κ = declared_send (apart.the_type κ) (search (sendable, branches_send) depth 40, (search parts depth 60 fits 20000, (search parts depth 60 fits 20000, tt)))

searcher_send : (κ : NamedLft) → IsSend (searcher.the_row κ)
searcher_send κ = declared_send (searcher.the_type κ) (search (sendable, program_sync) depth 40, (search parts depth 60 fits 20000, (search parts depth 60 fits 20000, (search parts depth 60 fits 20000, (search parts depth 60 fits 20000, (search parts depth 60 fits 20000, (search parts depth 60 fits 20000, (search parts depth 60 fits 20000, (search parts depth 60 fits 20000, (search parts depth 60 fits 20000, (search parts depth 60 fits 20000, (search parts depth 60 fits 20000, (search parts depth 60 fits 20000, (search parts depth 60 fits 20000, (search (sendable, crosses, apart_send) depth 40, (search parts depth 60 fits 20000, tt))))))))))))))))

engine_send : (κ : NamedLft) → IsSend (engine.the_row κ)
engine_send κ = declared_send (engine.the_type κ) (search parts depth 60 fits 20000, (search (sendable, searcher_send) depth 40, (search parts depth 60 fits 20000, tt)))

pub matcher_send : (κ : NamedLft) → IsSend (matcher.the_row κ)
matcher_send κ = declared_send (matcher.the_type κ) (search (sendable, engine_send) depth 40, tt)

-- ---- kept expressions

pub kept_send : (κ : NamedLft) → IsSend (kept.the_row κ)
kept_send κ = view_send (kept_inside.the_row κ) _ _ _ _ (declared_send (kept_inside.the_type κ) (search (sendable, expression_sync) depth 40, (search (sendable, crosses, matcher_send) depth 40, tt)))

pub kept_pattern_send : (κ : NamedLft) → IsSend (kept_pattern.the_row κ)
kept_pattern_send κ = declared_send (kept_pattern.the_type κ) (search (sendable, crosses, kept_send) depth 40, (search (sendable, crosses, kept_send) depth 40, tt))

-- ---- unions

set_send : IsSend set.the_row
set_send = declared_send set.the_type (search (sendable, crosses, regex_send) depth 40, (search (sendable, crosses, program_send) depth 40, tt))

set_sync : IsSync set.the_row
set_sync = declared_sync set.the_type (search (sendable, crosses, regex_sync) depth 40, (search (sendable, crosses, program_sync) depth 40, tt))

pub union_send : IsSend union.the_row
union_send = view_send union_inside.the_row _ _ _ _ (declared_send union_inside.the_type (search (sendable, set_send) depth 40, tt))

pub union_sync : IsSync union.the_row
union_sync = view_sync union_inside.the_row _ _ _ _ (declared_sync union_inside.the_type (search (sendable, set_sync) depth 40, tt))

joined_send : (κ : NamedLft) → IsSend (joined.the_row κ)
joined_send κ = declared_send (joined.the_type κ) (search (sendable, searcher_send) depth 40, tt)

set_matcher_send : (κ : NamedLft) → IsSend (set_matcher.the_row κ)
set_matcher_send κ = declared_send (set_matcher.the_type κ) (search (sendable, crosses, matcher_send) depth 40, (search (sendable, crosses, joined_send) depth 40, tt))

pub kept_union_send : (κ : NamedLft) → IsSend (kept_union.the_row κ)
kept_union_send κ = view_send (kept_union_inside.the_row κ) _ _ _ _ (declared_send (kept_union_inside.the_type κ) (search (sendable, union_sync) depth 40, (search (sendable, crosses, set_matcher_send) depth 40, tt)))
