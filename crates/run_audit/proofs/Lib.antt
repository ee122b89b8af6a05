mod AuditLemmas
mod OpenLemmas
