-- Each keyword is read from its own text.
use Rattle.std.proofs.Common.{refl}
use Rattle.model.specs.Laws.Commands.{KeywordsAreRead, ListingsAreRead}
use Rattle.model.specs.declared.command.Keyword.TheVariants as keyword
use Rattle.model.specs.declared.command.Listing.TheVariants as listing

pub keywords_read : KeywordsAreRead
keywords_read keyword.Article = refl
keywords_read keyword.Body = refl
keywords_read keyword.Capabilities = refl
keywords_read keyword.Date = refl
keywords_read keyword.Group = refl
keywords_read keyword.Head = refl
keywords_read keyword.Help = refl
keywords_read keyword.Ihave = refl
keywords_read keyword.Last = refl
keywords_read keyword.List = refl
keywords_read keyword.ListGroup = refl
keywords_read keyword.Mode = refl
keywords_read keyword.NewGroups = refl
keywords_read keyword.NewNews = refl
keywords_read keyword.Next = refl
keywords_read keyword.Over = refl
keywords_read keyword.Post = refl
keywords_read keyword.Quit = refl
keywords_read keyword.Stat = refl

pub listings_read : ListingsAreRead
listings_read listing.Active = refl
listings_read listing.Times = refl
listings_read listing.Newsgroups = refl
listings_read listing.OverviewFormat = refl
