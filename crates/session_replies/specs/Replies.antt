-- The texts of the replies in the code.
use Rattle.std.specs.Prelude.{[], ◌∷◌, map}
use Rattle.model.specs.Stream.{Octets}
use Rattle.model.specs.Answer.{capability_lines, overview_format, spaced}
use Rattle.model.specs.Commands.{keyword_text, keywords}
use Rattle.model.specs.Replies.{block, bye, transferred, received, send_transferred, send_posted, service_ends, no_such_group}
use Rattle.model.specs.Replies.{no_group_selected, no_current_article, no_next_article, no_previous_article, no_such_number}
use Rattle.model.specs.Replies.{no_such_article, not_wanted, try_later, rejected, not_accepted, unknown_command, syntax_error, help_follows}
use Rattle.model.specs.Replies.{capabilities_follow, information_follows, overview_follows, articles_follow, groups_follow}
use Rattle.session_replies.specs.declared.texts.FixedBlock.{FixedBlock}
use Rattle.session_replies.specs.declared.texts.FixedBlock.TheVariants as blocks
use Rattle.session_replies.specs.declared.texts.Reply.{Reply}
use Rattle.session_replies.specs.declared.texts.Reply.TheVariants as reply
use Rattle.session_replies.specs.declared.texts.Heading.{Heading}
use Rattle.session_replies.specs.declared.texts.Heading.TheVariants as heading

abbrev pub sent : Reply → Octets
sent reply.Bye = bye
sent reply.Transferred = transferred
sent reply.Received = received
sent reply.SendTransferred = send_transferred
sent reply.SendPosted = send_posted
sent reply.ServiceEnds = service_ends
sent reply.NoSuchGroup = no_such_group
sent reply.NoGroupSelected = no_group_selected
sent reply.NoCurrentArticle = no_current_article
sent reply.NoNextArticle = no_next_article
sent reply.NoPreviousArticle = no_previous_article
sent reply.NoSuchNumber = no_such_number
sent reply.NoSuchArticle = no_such_article
sent reply.NotWanted = not_wanted
sent reply.TryLater = try_later
sent reply.Rejected = rejected
sent reply.NotAccepted = not_accepted
sent reply.UnknownCommand = unknown_command
sent reply.SyntaxError = syntax_error

abbrev pub headed : Heading → Octets
headed heading.Help = help_follows
headed heading.Capabilities = capabilities_follow
headed heading.Information = information_follows
headed heading.Overview = overview_follows
headed heading.Articles = articles_follow
headed heading.Groups = groups_follow

abbrev pub sent_block : FixedBlock → Octets
sent_block blocks.Capabilities = block capabilities_follow capability_lines
sent_block blocks.Help = block help_follows (spaced (map keyword_text keywords) ∷ [])
sent_block blocks.OverviewFormat = block information_follows overview_format
