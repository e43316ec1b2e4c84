use Rattle.book.proofs.Storage.{no_entries}
use Rattle.book.proofs.site.Site.new.Goals as goal

pub returns : goal.returns
returns c = no_entries _ c.new.ensures c.new-2.ensures c.new-3.ensures
