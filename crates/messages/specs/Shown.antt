-- What contracts see of a request and of a verdict.
use Rattle.messages.specs.Fields.{RequestFields, VerdictFields}
use Rattle.messages.specs.declared.request.Request.TheInside as request
use Rattle.messages.specs.declared.verdict.Verdict.TheInside as verdict

abbrev pub request_fields : request.Inside → RequestFields
request_fields r = record {
  at = r.at;
  by = r.by;
  ceiling = r.ceiling;
  cmnds = r.cmnds.items;
  from = r.from;
  hosts = r.hosts.items;
  no = r.no;
  runas = r.runas;
  until = r.until;
}

abbrev pub verdict_fields : verdict.Inside → VerdictFields
verdict_fields v = record { at = v.at; by = v.by; kind = v.kind; no = v.no; of = v.of }
