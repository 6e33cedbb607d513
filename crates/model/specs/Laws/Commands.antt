-- The tables of keywords.
use Rattle.std.specs.Prelude.{◌≡◌, Some}
use Rattle.model.specs.Commands.{keyword_of, keyword_text, keywords, listing_of, listing_text, listings}
use Rattle.model.specs.declared.command.Keyword.{Keyword}
use Rattle.model.specs.declared.command.Listing.{Listing}
use Rattle.model.specs.declared.command.TheConstants.{KEYWORDS, LISTINGS}

-- The code's table of keywords is the list of the definitions.
abbrev pub KeywordsAreListed : Type 0
KeywordsAreListed = KEYWORDS ≡ keywords

-- Each keyword is the one that its text is read as. So the list has all keywords, and no two have the same text.
abbrev pub KeywordsAreRead : Type 0
KeywordsAreRead = (k : Keyword) → keyword_of (keyword_text k) ≡ Some k

-- The code's table of LIST's own keywords is the list of the definitions.
abbrev pub ListingsAreListed : Type 0
ListingsAreListed = LISTINGS ≡ listings

-- Each of them is the one that its text is read as.
abbrev pub ListingsAreRead : Type 0
ListingsAreRead = (l : Listing) → listing_of (listing_text l) ≡ Some l
